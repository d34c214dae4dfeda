-- What the definitions over a shelf's records say at one record, and after the last.
use Rattle.shelf.proofs.Names.{Bool, Found, Head, List, None, Option, Record, Some, [], ◌&&◌, ◌+◌, ◌||◌, ◌∷◌, ◌≡◌, ◌≤◌}
use Rattle.shelf.proofs.Names.{and_left, and_right, append-nil, arith, by_test, comes, cond, current_in, eqb, eqb-true, false, has_current}
use Rattle.shelf.proofs.Names.{head_of, heads, is_current_of, leb, length, length-append, not, not_higher, place_of, records, refl, size_of}
use Rattle.shelf.proofs.Names.{stays, stored, those, true, two_current, written, ℕ}
use Rattle.std.specs.List.{filter, list_any}
use mathlib.Core.List.{map}
use Rattle.shelf.proofs.Reading.{stored-within}

pub or_left : (a b : Bool) → a || b ≡ false → a ≡ false
or_left true b e = e
or_left false b e = refl

pub or_right : (a b : Bool) → a || b ≡ false → b ≡ false
or_right true b e = let z : ◌≡◌ {A = ℕ} 0 1 = cc in absurd (omega arith)
or_right false b e = e

pub none-current : (job : ℕ) (rs : List Record) → has_current job rs ≡ false → those (is_current_of job) rs ≡ []
unfolding has_current those
none-current job [] e = refl
none-current job (r ∷ rs) e = rw (or_left (is_current_of job r) _ e) (none-current job rs (or_right (is_current_of job r) _ e))

-- one of two current records of a job has no other behind it
pub alone : (job : ℕ) (r : Record) (rs : List Record) → two_current (r ∷ rs) ≡ false → is_current_of job r ≡ true → has_current job rs ≡ false
unfolding two_current
alone job r rs e f =
    let no = or_left (r.current && has_current r.job rs) (two_current rs) e in
    let same : r.job ≡ job = eqb-true r.job job (and_right r.current _ f) in
    rw (and_left r.current _ f, same) at no

pub two_rest : (r : Record) (rs : List Record) → two_current (r ∷ rs) ≡ false → two_current rs ≡ false
unfolding two_current
two_rest r rs e = or_right (r.current && has_current r.job rs) _ e

-- What a walk over the heads tells is what the records say: whether a job has a current record, whether some edition of it is at least
-- the one asked for, and how many bytes a collection keeps.
pub any-current : (job : ℕ) (rs : List Record) → list_any (λ h. h.current && eqb h.job job) (map head_of rs) ≡ has_current job rs
unfolding has_current
any-current job [] = refl
any-current job (r ∷ rs) = rw (any-current job rs)

-- what a head says of a job and an edition, and of a collection beside a record that is coming
abbrev pub reaching : ℕ → ℕ → Head → Bool
reaching job edition h = eqb h.job job && leb edition h.edition

abbrev pub staying : Option ℕ → Head → Bool
staying coming h = not (comes coming h.job) && h.current

pub any-reached : (job edition : ℕ) (rs : List Record) → list_any (reaching job edition) (map head_of rs) ≡ not_higher job edition rs
unfolding not_higher
any-reached job edition [] = refl
any-reached job edition (r ∷ rs) = rw (any-reached job edition rs)

-- the bytes of the records with these heads
abbrev pub sizes : List Head → ℕ
sizes [] = 0
sizes (h ∷ hs) = h.size + sizes hs

pub sizes-kept : (coming : Option ℕ) (rs : List Record)
    → sizes (filter (staying coming) (map head_of rs)) ≡ length (stored (those (stays coming) rs))
unfolding those stored
sizes-kept coming [] = refl
sizes-kept coming (r ∷ rs) =
    by_test (stays coming r) (λ e. rw (e, length-append, sizes-kept coming rs)) (λ e. rw (e, sizes-kept coming rs))

pub those-length : (test : Record → Bool) (rs : List Record) → length (stored (those test rs)) ≤ length (stored rs)
unfolding those stored
those-length test [] = omega arith
those-length test (r ∷ rs) =
    let more = those-length test rs in
    by_test (test r) (λ e. rw e (simp length-append (omega arith))) (λ e. rw e (simp length-append (omega arith)))

-- and where a job's current record stands
abbrev pub Standing : ℕ → ℕ → List Record → Found
Standing job x rs = record { start = x + place_of job rs; length = size_of job rs }

pub current-standing : (job x : ℕ) (rs : List Record) → two_current rs ≡ false
    → current_in job x (map head_of rs) ≡ cond (has_current job rs) (Some (Standing job x rs)) None
unfolding current_in has_current place_of those stored
current-standing job x [] f = refl
current-standing job x (r ∷ rs) f =
    by_test (is_current_of job r)
    (λ e.
    let here : x + 0 ≡ x = omega arith in
    rw (e, here, none-current job rs (alone job r rs f e), append-nil))
    (λ e.
    let there : x + (length (written r) + place_of job rs) ≡ x + length (written r) + place_of job rs = omega arith in
    rw (e, there) (current-standing job (x + length (written r)) rs (two_rest r rs f)))

sizes-heads : (rs : List Record) → sizes (map head_of rs) ≡ length (stored rs)
unfolding stored
sizes-heads [] = refl
sizes-heads (r ∷ rs) = rw (length-append, sizes-heads rs)

pub sizes-within : (b : List ℕ) → sizes (heads b) ≤ length b
unfolding heads
sizes-within b = omega (arith, sizes-heads (records b), stored-within b)

-- a walk that looks for it, at the heads that it has still before it
module _ (job x : ℕ) {left : List Head} where
  pub found_none : left ≡ [] → current_in job x left ≡ None
  unfolding current_in
  found_none e = rw e

  module _ {h : Head} {hs : List Head} (e : left ≡ h ∷ hs) where
    pub found_here : h.current && eqb h.job job ≡ true → current_in job x left ≡ Some (record { start = x; length = h.size })
    unfolding current_in
    found_here f = rw (e, f)

    pub found_on : h.current && eqb h.job job ≡ false → current_in job x left ≡ current_in job (x + h.size) hs
    unfolding current_in
    found_on f = rw (e, f)

    pub sizes_on : sizes left ≡ h.size + sizes hs
    sizes_on = rw e

-- a walk that asks each head for a test, or adds up the sizes of those that pass it, at the heads that it has still before it
module _ (test : Head → Bool) {left : List Head} where
  pub any_none : left ≡ [] → list_any test left ≡ false
  any_none e = rw e

  pub kept_none : left ≡ [] → sizes (filter test left) ≡ 0
  kept_none e = rw e

  module _ {h : Head} {hs : List Head} (e : left ≡ h ∷ hs) where
    pub any_here : test h ≡ true → list_any test left ≡ true
    any_here f = rw (e, f)

    pub any_on : test h ≡ false → list_any test left ≡ list_any test hs
    any_on f = rw (e, f)

    pub kept_here : test h ≡ true → sizes (filter test left) ≡ h.size + sizes (filter test hs)
    kept_here f = rw (e, f)

    pub kept_on : test h ≡ false → sizes (filter test left) ≡ sizes (filter test hs)
    kept_on f = rw (e, f)

-- what is kept is no longer than the bytes that the records are of
pub kept-within : (coming : Option ℕ) (b : List ℕ) → length (stored (those (stays coming) (records b))) ≤ length b
kept-within coming b = omega (arith, those-length (stays coming) (records b), stored-within b)
