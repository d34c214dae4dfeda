-- Of two numbers, either the first is the smaller, or it is not.
use Rattle.pieces.proofs.Names.{Bool, ◌<◌, ◌≡◌, ◌≤◌, false, ltb, ltb-false, ltb-true, refl, true, ℕ}

pub by_order : {P : Type 0} (a b : ℕ) → (a < b → P) → (b ≤ a → P) → P
by_order {P} a b less more = by (ltb a b) refl
  where
    by : (t : Bool) → ltb a b ≡ t → P
    by true e = less (ltb-true a b e)
    by false e = more (ltb-false a b e)
