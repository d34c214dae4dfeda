-- Writing a record: what is left in the output, from the call alone.
use Rattle.std.specs.Prelude.{ℕ, cond, Result, Ok, Err, List, ◌++◌, ltb, length}
use Rattle.block.specs.Over.{over}
use Rattle.journal.specs.Format.{Entry, part, head, middle, written, too_long}
use Rattle.journal.specs.declared.writer.Unwritten.{Unwritten}
use Rattle.journal.specs.declared.writer.Unwritten.TheVariants.{TooLong, NoRoom}

-- a record up to its IV, and from its room on
abbrev pub asked_of : Entry → List ℕ
asked_of e = head e ++ (part e.label ++ (part e.«data» ++ part e.iv))

abbrev pub answered_of : Entry → List ℕ
answered_of e = middle e ++ part e.output

-- how it ended, and every byte of the output
pub record Leaves : Type 0 where
  pub wrote : Result ℕ Unwritten
  pub bytes : List ℕ

-- the entry e at the front of o, if its parts are within the limits and there is room
unfoldable pub write : Entry → List ℕ → Leaves
write e o =
    cond (too_long e) (record { wrote = Err TooLong; bytes = o })
    (cond (ltb (length o) (length (written e))) (record { wrote = Err NoRoom; bytes = o })
    (record { wrote = Ok (length (written e)); bytes = over (written e) o }))
