-- What a shelf says of its jobs, and what putting and collecting make of its records.
use Rattle.std.specs.Prelude.{ℕ, ◌+◌, Bool, false, not, ◌&&◌, ◌||◌, cond, List, [], ◌∷◌, ◌++◌, leb, ltb, eqb, length, take}
use Rattle.shelf.specs.Records.{Record, written, stored, records}

-- whether r is the current record of a job
abbrev pub is_current_of : ℕ → Record → Bool
is_current_of job r = r.current && eqb r.job job

-- the records that pass a test, in order
unfoldable pub those : (Record → Bool) → List Record → List Record
those test [] = []
those test (r ∷ rs) = cond (test r) (r ∷ those test rs) (those test rs)

-- the current records of a job: on a shelf in order there is one or none
abbrev pub current_of : ℕ → List Record → List Record
current_of job rs = those (is_current_of job) rs

-- collection removes the superseded records
abbrev pub collected : List Record → List Record
collected rs = those (λ r. r.current) rs

unfoldable pub has_current : ℕ → List Record → Bool
has_current job [] = false
has_current job (r ∷ rs) = is_current_of job r || has_current job rs

-- two current records of one job
unfoldable pub two_current : List Record → Bool
two_current [] = false
two_current (r ∷ rs) = (r.current && has_current r.job rs) || two_current rs

-- the bytes before a job's current record
unfoldable pub place_of : ℕ → List Record → ℕ
place_of job [] = 0
place_of job (r ∷ rs) = cond (is_current_of job r) 0 (length (written r) + place_of job rs)

-- and the bytes of that record
abbrev pub size_of : ℕ → List Record → ℕ
size_of job rs = length (stored (current_of job rs))

-- an edition is refused unless it is higher than every one of its job, superseded ones too
unfoldable pub not_higher : ℕ → ℕ → List Record → Bool
not_higher job edition [] = false
not_higher job edition (r ∷ rs) = (eqb r.job job && leb edition r.edition) || not_higher job edition rs

abbrev pub superseded : Record → Record
superseded r = record { current = false; job = r.job; edition = r.edition; sealed = r.sealed }

-- the job's current record is marked superseded
unfoldable pub supersede : ℕ → List Record → List Record
supersede job [] = []
supersede job (r ∷ rs) = cond (is_current_of job r) (superseded r) r ∷ supersede job rs

-- a new record is put in: it supersedes the job's current one, and stands at the end
unfoldable pub with_new : Record → List Record → List Record
with_new new rs = supersede new.job rs ++ (new ∷ [])

-- and where that does not fit in so many bytes, the records are collected
unfoldable pub fitted : ℕ → List Record → List Record
fitted room rs = cond (leb (length (stored rs)) room) rs (collected rs)

-- a buffer over 65,536 bytes, a used count that passes it, records that do not fill that count exactly, as where one is cut or has
-- an unknown mark, or two current ones of one job
unfoldable pub bad_shelf : List ℕ → ℕ → Bool
bad_shelf shelf used =
    let rs = records (take used shelf) in
    ltb 65536 (length shelf)
    || (ltb (length shelf) used
    || (not (eqb (length (stored rs)) used)
    || two_current rs))
