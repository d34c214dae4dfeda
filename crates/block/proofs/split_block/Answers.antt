-- `block::split_block` meets its contract. `words` is by definition the words at 0, 4, 8 and 12.
use Rattle.std.proofs.Common.{arith}
use Rattle.std.proofs.lemmas.Grind.{common_steps}
use Rattle.block.specs.Words.{words}
use Rattle.block.proofs.split_block.Goals as goal

pub returns : goal.returns
unfolding words
returns c = grind (arith, common_steps)
