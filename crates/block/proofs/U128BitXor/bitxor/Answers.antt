-- `^` meets its contract. Both low halves are below 2^64, so the halves' sums are the halves of the sum (`xor_wide`).
use Rattle.block.proofs.Base.{rules}
use Rattle.block.proofs.Xor.{xor_wide}
use Rattle.block.proofs.U128BitXor.bitxor.Goals as goal

pub returns : goal.returns
returns c = search (rules, xor_wide)
