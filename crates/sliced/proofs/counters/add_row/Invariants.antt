-- The first q words are added.
use Rattle.sliced.proofs.Names.{RowAdded}
use Rattle.sliced.proofs.counters.add_row.Given as goal

abbrev pub invariant-loop-q : goal.invariant-loop-q
invariant-loop-q l = RowAdded l.m l.i l.q l.a l.initial.x l.initial.y l.x l.y
