-- The lanes of the words that are gone from the end are joined.
use Rattle.cipher.proofs.FourLanes.{LeftOf}
use Rattle.cipher.proofs.gates.four_bytes.Given as goal

abbrev pub invariant-loop-x : goal.invariant-loop-x
invariant-loop-x l = LeftOf l.fn.o l.x-iterator.iter.rest.now l.w
