-- The loop's invariant: the keys to come decide. The measure is how many they are.
use Rattle.journal.proofs.Names.{◌≡◌, length, number_twice}
use Rattle.journal.proofs.keys.number_twice.Given as goal

abbrev pub invariant-loop-key : goal.invariant-loop-key
invariant-loop-key l = number_twice l.rest ≡ number_twice l.keys

abbrev pub decreases-loop-key : goal.decreases-loop-key
decreases-loop-key l = length l.rest
