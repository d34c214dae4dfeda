-- The records of a shelf: how they are written, one after another, and how they are read. Numbers are big-endian.
use Rattle.std.specs.Prelude.{ℕ, zero, suc, ◌+◌, ◌-◌, ◌<◌, ◌^◌, Bool, ◌&&◌, ◌||◌, cond, List, [], ◌∷◌, ◌++◌}
use Rattle.std.specs.Prelude.{Option, Some, None, leb, eqb, length, get_or, take, drop, map}
use Rattle.block.specs.Below.{AreBytes}
use Rattle.block.specs.BigEndian.{number_of, bytes_of}
use Rattle.block.specs.Words.{word_at}
use Rattle.label.specs.Label.{label_of}
use Rattle.shelf.specs.declared.records.Head.{Head}

pub record Record : Type 0 where
  -- what its mark says: current, or else superseded
  pub current : Bool
  pub job : ℕ
  pub edition : ℕ
  pub sealed : List ℕ

-- what can be written so that it reads back: numbers that their fields have room for, and bytes
pub record Proper (r : Record) : Type 0 where
  pub job : r.job < 2 ^ 32
  pub edition : r.edition < 2 ^ 16
  pub size : length r.sealed < 2 ^ 32
  pub bytes : AreBytes r.sealed

abbrev pub AllProper : List Record → Type 0
AllProper [] = Unit {0}
AllProper (r ∷ rs) = Proper r × AllProper rs

-- the second byte of a mark
abbrev pub mark_of : Bool → ℕ
mark_of current = cond current 0x44 0x58

-- mark, job, edition, length, and then the sealed bytes; job and edition are the label of the file
unfoldable pub written : Record → List ℕ
written r = 0x52 ∷ mark_of r.current ∷ (label_of r.job r.edition ++ (bytes_of 4 (length r.sealed) ++ r.sealed))

unfoldable pub stored : List Record → List ℕ
stored [] = []
stored (r ∷ rs) = written r ++ stored rs

-- whether b starts with one of the two marks
unfoldable pub marked : List ℕ → Bool
marked b = eqb (get_or b 0 0) 0x52 && (eqb (get_or b 1 0) 0x44 || eqb (get_or b 1 0) 0x58)

-- whether a record stands whole at the front of b
unfoldable pub starts_record : List ℕ → Bool
starts_record b = leb 12 (length b) && (marked b && leb (word_at b 8) (length b - 12))

-- how many bytes it has; 0 where there is none
unfoldable pub size_at : List ℕ → ℕ
size_at b = cond (starts_record b) (12 + word_at b 8) 0

-- the record at the front of b
unfoldable pub front : List ℕ → Record
front b =
    record {
      current = eqb (get_or b 1 0) 0x44;
      job = word_at b 2;
      edition = number_of (get_or b 6 0 ∷ get_or b 7 0 ∷ []);
      sealed = take (word_at b 8) (drop 12 b);
    }

-- at most n records from the front of b on, as far as they stand whole
unfoldable pub read_up_to : ℕ → List ℕ → List Record
read_up_to zero b = []
read_up_to (suc n) b = cond (starts_record b) (front b ∷ read_up_to n (drop (size_at b) b)) []

-- all of them: there are no more records than bytes
unfoldable pub records : List ℕ → List Record
records b = read_up_to (length b) b

-- what the head of a record says
abbrev pub head_of : Record → Head
head_of r = record { size = length (written r); current = r.current; job = r.job; edition = r.edition }

-- the head of the record at the front of b; none where no record stands whole there
unfoldable pub head_at : List ℕ → Option Head
head_at b = cond (starts_record b) (Some (head_of (front b))) None

-- the heads of all its records
unfoldable pub heads : List ℕ → List Head
heads b = map head_of (records b)
