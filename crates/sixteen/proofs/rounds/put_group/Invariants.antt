-- Two words more for each of the eight.
use Rattle.sixteen.proofs.Names.{Each, Halves, ◌*◌, ◌+◌, ℕ}
use Rattle.sixteen.proofs.rounds.put_group.Given as goal

abbrev pub invariant-loop-i : goal.invariant-loop-i
invariant-loop-i l = (f : ℕ → ℕ) → Each f (16 * l.g) l.initial.s → Halves f l.g l.fn.z → Each f (16 * l.g + 2 * l.i) l.s
