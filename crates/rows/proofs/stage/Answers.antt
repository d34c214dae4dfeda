use Rattle.block.proofs.Base.{rules}
use Rattle.rows.proofs.Turns.{staged_next}
use Rattle.rows.proofs.stage.Goals as goal

pub loop-i-preserved : goal.loop-i-preserved
loop-i-preserved c = search (rules, staged_next)
