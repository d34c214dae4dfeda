use Rattle.block.proofs.Base.{rules}
use Rattle.rows.proofs.Turns.{swapped_next}
use Rattle.rows.proofs.swap_bits.Goals as goal

pub loop-e-preserved : goal.loop-e-preserved
loop-e-preserved c = search (rules, swapped_next)
