-- The loop's invariant is how far the collection has come, and the measure how many bytes are to come.
use Rattle.shelf.proofs.Names.{◌-◌}
use Rattle.shelf.proofs.Keeping.{Collecting}
use Rattle.shelf.proofs.change.keep.Given as goal

abbrev pub invariant-loop-head : goal.invariant-loop-head
invariant-loop-head l = Collecting l.coming l.fn.shelf l.used l.shelf l.to l.at

abbrev pub decreases-loop-head : goal.decreases-loop-head
decreases-loop-head l = l.used - l.at
