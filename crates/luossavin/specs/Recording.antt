-- The exported call that writes the record of a call: what it leaves.
use Rattle.std.specs.Prelude.{ℕ, Bool, cond, List, ltb, length, Result, Ok, Err}
use Rattle.cipher_mode.specs.Outcome.{Head, Outcome, finished, refusal, refuse, done}
use Rattle.journal.specs.Format.{Entry, written, too_long}
use Rattle.journal.specs.declared.writer.Unwritten.{Unwritten}
use Rattle.journal.specs.declared.writer.Unwritten.TheVariants.{TooLong, NoRoom}
use Rattle.luossavin.specs.InPieces.{direction_of}

-- n, or the most that there is room for
unfoldable pub at_most : ℕ → ℕ → ℕ
at_most most n = cond (ltb most n) most n

-- the call as a record has it: mode and answer in a byte each, the room in four
abbrev pub entry_in : Bool → ℕ → ℕ → List ℕ → List ℕ → List ℕ → ℕ → ℕ → List ℕ → Entry
entry_in decrypt mode key label d iv room number output =
    record {
      direction = direction_of decrypt;
      mode = at_most 255 mode;
      key = key;
      label = label;
      «data» = d;
      iv = iv;
      room = at_most 0xffff_ffff room;
      number = at_most 255 number;
      output = output;
    }

-- the entry e at the front of o: 24 where one of its parts is too long, 6 where there is no room for it
unfoldable pub recorded : Entry → List ℕ → Outcome
recorded e o =
    refuse (too_long e) 24 o
    (refuse (ltb (length o) (length (written e))) 6 o
    (done (written e) o))

unfoldable pub host_record : Bool → ℕ → ℕ → List ℕ → List ℕ → List ℕ → ℕ → ℕ → List ℕ → List ℕ → Outcome
host_record decrypt mode key label d iv room number output o = recorded (entry_in decrypt mode key label d iv room number output) o

-- how a writer ended, as an answer, which is on no key
abbrev pub wrote_head : Result ℕ Unwritten → Head
wrote_head (Ok n) = finished n
wrote_head (Err TooLong) = refusal 24
wrote_head (Err NoRoom) = refusal 6
