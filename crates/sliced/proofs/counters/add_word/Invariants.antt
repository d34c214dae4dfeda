-- The low i bits are added.
use Rattle.sliced.proofs.Ripple.{Rippled}
use Rattle.sliced.proofs.counters.add_word.Given as goal

abbrev pub invariant-loop-i : goal.invariant-loop-i
invariant-loop-i l = Rippled l.fn.w l.i l.fn.x l.fn.y l.x l.carries

abbrev pub invariant-loop-i-2 : goal.invariant-loop-i-2
invariant-loop-i-2 l = Rippled l.fn.w l.i l.fn.x l.fn.y l.x l.carries
