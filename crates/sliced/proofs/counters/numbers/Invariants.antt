-- The first p words hold the lanes' numbers, the others nothing.
use Rattle.sliced.proofs.LaneNumbers.{Numbered}
use Rattle.sliced.proofs.counters.numbers.Given as goal

abbrev pub invariant-loop-p : goal.invariant-loop-p
invariant-loop-p l = Numbered l.p l.x

abbrev pub invariant-loop-p-2 : goal.invariant-loop-p-2
invariant-loop-p-2 l = Numbered l.p l.x
