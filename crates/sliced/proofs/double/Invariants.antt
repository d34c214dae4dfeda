-- What is held in the first half is held once more in i words behind it.
use Rattle.sliced.proofs.Names.{Held, ◌+◌, ℕ}
use Rattle.sliced.proofs.double.Given as goal

abbrev pub invariant-loop-i : goal.invariant-loop-i
invariant-loop-i l = (f : ℕ → ℕ) (n : ℕ) → Held f n 256 l.initial.s → Held f n (256 + l.i) l.s
