-- The first i words are placed, and the others stand as they were.
use Rattle.sliced.proofs.Names.{◌*◌, ◌+◌, ◌<◌, ◌≡◌, get_or, ℕ}
use Rattle.sliced.proofs.put_column.Given as goal

abbrev pub invariant-loop-i : goal.invariant-loop-i
invariant-loop-i l = record {
  placed : (k : ℕ) → k < l.i → get_or l.s (l.p + 8 * k) 0 ≡ get_or l.fn.words k 0;
  rest : (q : ℕ) → ((k : ℕ) → k < l.i → q ≡ l.p + 8 * k → ⊥) → get_or l.s q 0 ≡ get_or l.initial.s q 0;
}
