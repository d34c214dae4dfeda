-- What a test tells, and what it tells of an entry that is not too long.
use Rattle.journal.proofs.Names.{Bool, Entry, ◌||◌, ◌≡◌, ◌≤◌, arith, false, length, ltb-false, output_limit, part_limit, past_limit}
use Rattle.journal.proofs.Names.{refl, too_long, true, ℕ}

-- not both
pub clash : (t : Bool) → t ≡ true → t ≡ false → ⊥
clash t e f = let z : ◌≡◌ {A = ℕ} 0 1 = cc in omega arith

pub or_left : (a b : Bool) → (a || b) ≡ false → a ≡ false
or_left true b e = e
or_left false b e = refl

pub or_right : (a b : Bool) → (a || b) ≡ false → b ≡ false
or_right true b e = absurd (clash true refl e)
or_right false b e = e

pub record Short (e : Entry) : Type 0 where
  pub label : length e.label ≤ part_limit
  pub «data» : length e.«data» ≤ part_limit
  pub iv : length e.iv ≤ part_limit
  pub output : length e.output ≤ output_limit

pub short : (e : Entry) → too_long e ≡ false → Short e
unfolding past_limit
short e t = search (or_left, or_right, ltb-false)
