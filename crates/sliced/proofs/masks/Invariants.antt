-- The masks of the first i bits are there.
use Rattle.sliced.proofs.Names.{Masks, ◌+◌, ◌≡◌, bit, length}
use Rattle.sliced.proofs.masks.Given as goal

abbrev pub invariant-loop-i : goal.invariant-loop-i
invariant-loop-i g l = (length l.mask-items ≡ g.row.N) × Masks l.i (λ i. bit (l.from + i) l.k) l.mask-items
