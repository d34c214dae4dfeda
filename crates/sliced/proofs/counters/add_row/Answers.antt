use Rattle.sliced.proofs.Names.{rules}
use Rattle.sliced.proofs.Ripple.{added-first, added_next}
use Rattle.sliced.proofs.counters.add_row.Goals as goal

pub loop-q-init : goal.loop-q-init
loop-q-init c = search (rules, added-first)

pub loop-q-preserved : goal.loop-q-preserved
loop-q-preserved c = search (rules, added_next)
