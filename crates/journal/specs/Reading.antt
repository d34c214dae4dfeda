-- What is told of the record that was read at the front of a part of a journal.
use Rattle.std.specs.Prelude.{ℕ, ◌≡◌, true, cond, Option, Some, None, List}
use Rattle.journal.specs.Format.{Entry, Stands, starts_part, part_at, behind, starts_record, size_at, front, after_record}
use Rattle.journal.specs.declared.records.Call.{Call}

-- the call that was recorded
abbrev pub entry_of : Call → Entry
entry_of c =
    record {
      direction = c.direction;
      mode = c.mode;
      key = c.key;
      label = c.label.now;
      «data» = c.«data».now;
      iv = c.iv.now;
      room = c.room;
      number = c.number;
      output = c.output.now;
    }

-- the part p stands whole at the front of b, and t is behind it
pub record ReadsPart (b p t : List ℕ) : Type 0 where
  pub whole : starts_part b ≡ true
  pub part : p ≡ part_at b
  pub rest : t ≡ behind b

-- the record of the call c stands whole at the front of b, and t is behind it
pub record Reads (b : List ℕ) (c : Call) (t : List ℕ) : Type 0 where
  pub stands : Stands b
  pub entry : entry_of c ≡ front b
  pub rest : t ≡ after_record b

-- how many bytes the record at the front of b has, if one stands whole there
abbrev pub measure : List ℕ → Option ℕ
measure b = cond (starts_record b) (Some (size_at b)) None
