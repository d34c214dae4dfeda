-- The exported calls on a shelf: demand 1 of them, which number each answers, a row a condition, in the order in which they are asked, and
-- what a shelf is for, that no rough is shown for its final.
use Rattle.demands.specs.Names as N
use Rattle.std.specs.Prelude.{◌∷◌, ◌≢◌, ◌≡◌, ◌+◌, ◌<◌, ◌^◌, ◌≤◌}
use N.{not, true, List, [], ℕ, ltb, drop, length, take, label_of, ShelfOutcome as Outcome, Place, put_in, Record, records}
use N.{stored_shelf as stored, bad_shelf, collected, has_current, not_higher}
use Rattle.demands.specs.Answered.{one_of}
use Rattle.demands.specs.Call.{Call, RefusedAs}
use Rattle.demands.specs.WhichNumber.{Row, row}

-- x is what a call leaves of a buffer that was lent with so many bytes used
pub record ShelfAnswered (numbers : List ℕ) (shelf : List ℕ) (used : ℕ) (x : Outcome) : Type 0 where
  -- the number is one of those that the call can answer
  pub numbered : one_of x.number numbers ≡ true
  -- every refusal hands back the used count that came, and changes no byte
  pub refused : x.number ≢ 0 → (x.used ≡ used) × (x.bytes ≡ shelf)
  -- after a success the used count does not pass the buffer
  pub fits : x.number ≡ 0 → x.used ≤ length shelf
  -- the bytes from the used count on are the ones lent
  pub past : drop x.used x.bytes ≡ drop x.used shelf
  -- the buffer is as long as it was
  pub kept : length x.bytes ≡ length shelf

abbrev pub put_numbers : List ℕ
put_numbers = 0 ∷ 19 ∷ 20 ∷ 21 ∷ []

abbrev pub collect_numbers : List ℕ
collect_numbers = 0 ∷ 19 ∷ []

-- x is what looking up answers: a refusal has 0 in both, and what is found lies within the used bytes
pub record PlaceAnswered (shelf : List ℕ) (used : ℕ) (x : Place) : Type 0 where
  pub numbered : one_of x.number (0 ∷ 19 ∷ 22 ∷ []) ≡ true
  pub refused : x.number ≢ 0 → (x.start ≡ 0) × (x.size ≡ 0)
  pub inside : x.number ≡ 0 → (x.start + x.size ≤ used) × (used ≤ length shelf)

-- putting: no room is where the records that would be current do not fit in the buffer
abbrev pub put_rows : List ℕ → ℕ → ℕ → ℕ → List ℕ → List Row
put_rows shelf used job edition sealed =
    row (bad_shelf shelf used) 19
    ∷ row (not_higher job edition (records (take used shelf))) 20
    ∷ row (ltb (length shelf) (length (stored (collected (put_in shelf used job edition sealed))))) 21
    ∷ []

abbrev pub collect_rows : List ℕ → ℕ → List Row
collect_rows shelf used =
    row (bad_shelf shelf used) 19
    ∷ []

abbrev pub find_rows : List ℕ → ℕ → ℕ → List Row
find_rows shelf used job =
    row (bad_shelf shelf used) 19
    ∷ row (not (has_current job (records (take used shelf)))) 22
    ∷ []

-- the label of a record that was looked up, which is its own job and edition bytes, and its file
abbrev pub label_in : List ℕ → List ℕ
label_in part = take 6 (drop 2 part)

abbrev pub file_in : List ℕ → List ℕ
file_in part = drop 12 part

-- Of what a look-up of a job gave: its label is that of the job and an edition; and where its file opens under it, that is refused as 4
-- under every other edition's label, earlier and later ones.
pub record OneEditionOpens (opening : Call) (job : ℕ) (part iv o : List ℕ) : Type 0 where
  pub edition : ℕ
  pub label : label_in part ≡ label_of job edition
  pub alone : (opening (label_in part) (file_in part) iv o).head.number ≡ 0
      → (e : ℕ) → e < 2 ^ 16 → e ≢ edition → RefusedAs 4 o (opening (label_of job e) (file_in part) iv o)

-- The edition e of a job, newly put in, beside a record r of the job that was on the shelf before: it is higher; the new file, where it
-- opens under its own label, is refused under the older edition's; and the older file, where it opens under its own, is refused under e's.
pub record NoRoughShown (opening : Call) (job e : ℕ) (file iv o : List ℕ) (r : Record) : Type 0 where
  pub higher : r.edition < e
  pub new-under_old : (opening (label_of job e) file iv o).head.number ≡ 0 → RefusedAs 4 o (opening (label_of job r.edition) file iv o)
  pub old_under-new : (opening (label_of job r.edition) r.sealed iv o).head.number ≡ 0
      → RefusedAs 4 o (opening (label_of job e) r.sealed iv o)

-- so of every record of the job in a list
abbrev pub OfEach : (Record → Type 0) → ℕ → List Record → Type 0
OfEach P job [] = Unit {0}
OfEach P job (r ∷ rs) = (r.job ≡ job → P r) × OfEach P job rs
