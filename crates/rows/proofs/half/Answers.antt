-- Two words side by side have no bit in common.
use Rattle.block.proofs.Base.{rules}
use Rattle.block.proofs.Shift.{shl-or}
use Rattle.rows.proofs.half.Goals as goal

pub returns : goal.returns
returns c = rw (c.from.ensures, c.from-2.ensures) (search (rules, shl-or))
