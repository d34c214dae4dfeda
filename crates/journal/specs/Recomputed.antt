-- A recorded call, made again, and whether it is answered as it was.
use Rattle.std.specs.Prelude.{ℕ, ◌≡◌, Bool, not, ◌||◌, cond, List, ltb, eqb, length, take, replicate}
use Rattle.block.specs.Same.{same}
use Rattle.cipher_mode.specs.Outcome.{Outcome, refuse}
use Rattle.cipher_mode.specs.declared.Sm4Cipher.{Sm4Cipher}
use Rattle.cipher_mode.specs.Tables.{mode_of}
use Rattle.cipher_mode.specs.Calls.{mode_call}
use Rattle.journal.specs.Format.{Entry, output_limit}
use Rattle.journal.specs.declared.again.Answered.{Answered}
use Rattle.journal.specs.declared.again.Recomputed.{Recomputed}

-- the call of an entry on a key's record, into the output o; a mode above 4 is BadMode, 7
unfoldable pub call_into : Sm4Cipher → Entry → List ℕ → Outcome
call_into c e o =
    refuse (ltb 4 e.mode) 7 o
    (mode_call e.direction (record { cipher = c; mode = mode_of e.mode }) e.label e.«data» e.iv o)

-- with the room that it had
abbrev pub recomputed : Sm4Cipher → Entry → Outcome
recomputed c e = call_into c e (replicate e.room 0)

-- the output of an outcome
abbrev pub result : Outcome → List ℕ
result x = take x.head.size x.bytes

-- whether a number, a length or an output is another than the recorded one
unfoldable pub differs_from : Entry → ℕ → ℕ → List ℕ → Bool
differs_from e number size output =
    not (eqb e.number number)
    || (not (eqb (length e.output) size)
    || not (same e.output output))

-- what is counted of an entry that gave x when it was made again
abbrev pub judged : Entry → Outcome → Recomputed
judged e x =
    record {
      number = x.head.number;
      length = x.head.size;
      differs = differs_from e x.head.number x.head.size (result x);
    }

-- the entry of the same call with the answer x
abbrev pub answered_by : Outcome → Entry → Entry
answered_by x e =
    record {
      direction = e.direction;
      mode = e.mode;
      key = e.key;
      label = e.label;
      «data» = e.«data»;
      iv = e.iv;
      room = e.room;
      number = x.head.number;
      output = result x;
    }

-- what the code lends in place of the recorded room, since no call within the limits needs more
unfoldable pub lent_room : Entry → ℕ
lent_room e = cond (ltb output_limit e.room) output_limit e.room

-- an answer and an output are those of an outcome
pub record Answers (a : Answered) (o : List ℕ) (x : Outcome) : Type 0 where
  pub number : a.number ≡ x.head.number
  pub size : a.length ≡ x.head.size
  pub bytes : o ≡ x.bytes
