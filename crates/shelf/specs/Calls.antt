-- What the three calls leave, from the inputs alone. The numbers are those of W10.
use Rattle.std.specs.Prelude.{ℕ, ◌+◌, Bool, true, cond, List, [], Option, Some, None, Result, Ok, Err, ltb, length, take, drop}
use Rattle.block.specs.Over.{over}
use Rattle.shelf.specs.Records.{Record, stored, records}
use Rattle.shelf.specs.Shelf.{collected, has_current, place_of, size_of, not_higher, with_new, fitted, bad_shelf}
use Rattle.shelf.specs.declared.Unshelved.{Unshelved}
use Rattle.shelf.specs.declared.Unshelved.TheVariants.{BadShelf, NotHigher, NoRoom, NoCurrent}
use Rattle.shelf.specs.declared.Found.{Found}
use Rattle.shelf.specs.declared.NotKept.{NotKept}

-- what putting and collecting leave
pub record Outcome : Type 0 where
  -- 0 for done, otherwise the refusal
  pub number : ℕ
  pub used : ℕ
  -- the whole buffer
  pub bytes : List ℕ

-- the records stand at the front of the buffer, and the rest of it is as it was
abbrev pub holding : List Record → List ℕ → Outcome
holding rs shelf = record { number = 0; used = length (stored rs); bytes = over (stored rs) shelf }

-- where the test holds, refusal n: the used count and the buffer are as they came; otherwise what comes next
abbrev pub refuse : Bool → ℕ → List ℕ → ℕ → Outcome → Outcome
refuse test n shelf used next = cond test (record { number = n; used = used; bytes = shelf }) next

-- a current record
abbrev pub new_record : ℕ → ℕ → List ℕ → Record
new_record job edition sealed = record { current = true; job = job; edition = edition; sealed = sealed }

-- the records with a new one among them
abbrev pub put_in : List ℕ → ℕ → ℕ → ℕ → List ℕ → List Record
put_in shelf used job edition sealed = with_new (new_record job edition sealed) (records (take used shelf))

unfoldable pub put_call : List ℕ → ℕ → ℕ → ℕ → List ℕ → Outcome
put_call shelf used job edition sealed =
    refuse (bad_shelf shelf used) 19 shelf used
    (refuse (not_higher job edition (records (take used shelf))) 20 shelf used
    (refuse (ltb (length shelf) (length (stored (collected (put_in shelf used job edition sealed))))) 21 shelf used
    (holding (fitted (length shelf) (put_in shelf used job edition sealed)) shelf)))

unfoldable pub collect_call : List ℕ → ℕ → Outcome
collect_call shelf used =
    refuse (bad_shelf shelf used) 19 shelf used
    (holding (collected (records (take used shelf))) shelf)

-- what looking up a job gives: its current record as a part of the buffer; a refusal has 0 in both
pub record Place : Type 0 where
  pub number : ℕ
  pub start : ℕ
  pub size : ℕ

abbrev pub nowhere : ℕ → Place
nowhere n = record { number = n; start = 0; size = 0 }

unfoldable pub find_call : List ℕ → ℕ → ℕ → Place
find_call shelf used job =
    let rs = records (take used shelf) in
    cond (bad_shelf shelf used) (nowhere 19)
    (cond (has_current job rs) (record { number = 0; start = place_of job rs; size = size_of job rs })
    (nowhere 22))

-- the part of the buffer; empty where it lies outside
unfoldable pub part_of : Place → List ℕ → List ℕ
part_of p shelf = cond (ltb (length shelf) (p.start + p.size)) [] (take p.size (drop p.start shelf))

-- what looking up hands back
abbrev pub looked_up : List ℕ → ℕ → ℕ → List ℕ
looked_up shelf used job = part_of (find_call shelf used job) shelf

-- what every call is told first
abbrev pub checked : List ℕ → ℕ → Result (Unit {0}) NotKept
checked shelf used = cond (bad_shelf shelf used) (Err (record { why = BadShelf; used = used })) (Ok tt)

-- the number of a refusal
abbrev pub number_of_end : Option Unshelved → ℕ
number_of_end None = 0
number_of_end (Some BadShelf) = 19
number_of_end (Some NotHigher) = 20
number_of_end (Some NoRoom) = 21
number_of_end (Some NoCurrent) = 22

-- what an answer and the buffer spell
abbrev pub outcome_of : Result ℕ NotKept → List ℕ → Outcome
outcome_of (Ok used) shelf = record { number = 0; used = used; bytes = shelf }
outcome_of (Err r) shelf = record { number = number_of_end (Some r.why); used = r.used; bytes = shelf }

-- the place of what was found
abbrev pub place_at : Found → Place
place_at f = record { number = 0; start = f.start; size = f.length }

abbrev pub place_in : Result Found Unshelved → Place
place_in (Ok f) = place_at f
place_in (Err refused) = nowhere (number_of_end (Some refused))
