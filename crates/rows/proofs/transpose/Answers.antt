-- The six stages swap all six digits of the rows' and the bits' numbers, and the last one has stored every word.
use Rattle.block.proofs.Base.{rules}
use Rattle.rows.proofs.Six.{six, all_small}
use Rattle.rows.proofs.transpose.Goals as goal

pub returns : goal.returns
returns c = search (rules, six, all_small)
