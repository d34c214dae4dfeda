-- What the steps of the calls are proved to do, and where a shelf that is refused breaks off. No call's definition rests on these.
use Rattle.std.specs.Prelude.{ℕ, ◌+◌, ◌≤◌, ◌≡◌, Bool, false, not, ◌&&◌, cond, List, [], ◌∷◌, ◌++◌, Option, Some, None, ltb, eqb, length, take}
use Rattle.shelf.specs.Records.{Record, written, stored, records, heads}
use Rattle.shelf.specs.Shelf.{collected, has_current, not_higher, those, two_current, supersede}
use Rattle.shelf.specs.declared.Found.{Found}
use Rattle.shelf.specs.declared.lookup.Heads.{Heads}
use Rattle.shelf.specs.declared.records.Head.{Head}

-- a shelf that is not bad
pub record InOrder (shelf : List ℕ) (used : ℕ) : Type 0 where
  pub size : length shelf ≤ 65536
  pub within : used ≤ length shelf
  pub fills : length (stored (records (take used shelf))) ≡ used
  pub single : two_current (records (take used shelf)) ≡ false

-- the bytes up to where a shelf of these records breaks off: at the second current record of a job, or else behind the last that
-- reads; `passed` are the records before them
unfoldable pub sound_from : List Record → List Record → ℕ
sound_from passed [] = 0
sound_from passed (r ∷ rs) =
    cond (r.current && has_current r.job passed) 0
    (length (written r) + sound_from (passed ++ (r ∷ [])) rs)

abbrev pub sound_up_to : List Record → ℕ
sound_up_to rs = sound_from [] rs

-- whether a new record of that job is coming
abbrev pub comes : Option ℕ → ℕ → Bool
comes None job = false
comes (Some new) job = eqb job new

-- what a collection keeps: the current records, but not that of a job whose new record is coming
abbrev pub stays : Option ℕ → Record → Bool
stays coming r = not (comes coming r.job) && r.current

-- the bytes that a collection keeps beside a new record of the job; none where some edition of it is at least this one
abbrev pub kept_beside : ℕ → ℕ → List Record → Option ℕ
kept_beside job edition rs = cond (not_higher job edition rs) None (Some (length (stored (those (stays (Some job)) rs))))

-- what stands before a new record with so many sealed bytes
unfoldable pub room_made : ℕ → ℕ → ℕ → List Record → List Record
room_made room n job rs =
    cond (ltb room (length (stored rs) + (12 + n))) (collected (supersede job rs)) (supersede job rs)

-- the heads that a walk has still before it
abbrev pub heads_left : Heads → List Head
heads_left w = heads w.0.now

-- a job's current record among the records with these heads, with `start` bytes before them
unfoldable pub current_in : ℕ → ℕ → List Head → Option Found
current_in job start [] = None
current_in job start (h ∷ hs) =
    cond (h.current && eqb h.job job) (Some (record { start = start; length = h.size })) (current_in job (start + h.size) hs)
