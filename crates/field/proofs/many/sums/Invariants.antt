-- The first g sums are there, and what was read are words.
use Rattle.field.proofs.Names.{Each, ◌<◌, ◌^◌, ℕ, ◌≡◌, ◌⊕◌, get_or, length}
use Rattle.field.proofs.many.sums.Given as goal

abbrev pub invariant-loop-g : goal.invariant-loop-g
invariant-loop-g l =
    (length l.r ≡ 16)
    × Each (λ g. get_or l.x.low g 0 ⊕ get_or l.x.high g 0) l.g l.r
    × ((g : ℕ) → g < l.g → get_or l.x.low g 0 < 2 ^ 64)
