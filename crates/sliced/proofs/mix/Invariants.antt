-- The first i words have L added to them, the others are as they were.
use Rattle.sliced.proofs.Names.{Held, ◌<◌, ◌^◌, ℕ}
use Rattle.sliced.proofs.Mixing.{Mixed}
use Rattle.sliced.proofs.mix.Given as goal

abbrev pub invariant-loop-i : goal.invariant-loop-i
invariant-loop-i l = (f : ℕ → ℕ) (n : ℕ) → ((e : ℕ) → f e < 2 ^ 32) → Held f n 512 l.s → Mixed f n l.initial.a l.i l.a
