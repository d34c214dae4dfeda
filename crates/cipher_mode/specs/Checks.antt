-- What is refused before a byte is looked at, in the order of docs/REQUIREMENTS.md and by stages: key and IV, which end with
-- whether the key may encrypt, then label, data and room.
use Rattle.std.specs.Prelude.{ℕ, ◌-◌, ◌%◌, Bool, not, ◌&&◌, cond, List, Result, Ok, Err, eqb, ltb}
use Rattle.cipher_mode.specs.Outcome.{Outcome, leaving}
use Rattle.cipher_mode.specs.declared.KeyAnswer.{KeyAnswer}
use Rattle.cipher_mode.specs.declared.KeyAnswer.TheVariants.{Key, ErrorBlockSize as NoKey, WrongNumber as NoNumber}
use Rattle.cipher_mode.specs.declared.CipherMode.{CipherMode}
use Rattle.cipher_mode.specs.declared.CipherMode.TheVariants.{Cfb, Ofb, Ctr, Cbc, Gcm}
use Rattle.cipher_mode.specs.declared.Direction.{Direction}
use Rattle.cipher_mode.specs.declared.Direction.TheVariants.{Encrypt, Decrypt}
use Rattle.cipher_mode.specs.declared.answer.Refusal.{Refusal}
use Rattle.cipher_mode.specs.declared.answer.Refusal.TheVariants.{ErrorBlockSize, ErrorDataLen, TooLong, NoRoom, EmptyCbc, ShortGcm}
use Rattle.cipher_mode.specs.declared.answer.Refusal.TheVariants.{WrongIv, WrongBlock, WrongNumber, Retired}
use Rattle.cipher_mode.specs.declared.checks.Lengths.{Lengths}
use Rattle.cipher_mode.specs.Answer.{refusal_head}
use Rattle.cipher_mode.specs.Tables.{limit, limit_of, room_of}

-- what a check says: it passed, or what it refuses
abbrev pub Checked : Type 0
Checked = Result (Unit {0}) Refusal

-- where the test holds, the refusal r; otherwise what comes next
abbrev pub refuse : Bool → Refusal → Checked → Checked
refuse test r next = cond test (Err r) next

-- one stage and then the next
abbrev pub and_then : Checked → Checked → Checked
and_then (Ok _) next = next
and_then (Err r) next = Err r

-- a key's answer that is no key is refused as it was when the key was set up
abbrev pub key_check : KeyAnswer → Checked
key_check Key = Ok tt
key_check NoKey = Err ErrorBlockSize
key_check NoNumber = Err WrongNumber

-- an IV of n bytes that the mode does not take: it takes 16 bytes, and in Gcm 12 as well
abbrev pub wrong_iv : CipherMode → ℕ → Bool
wrong_iv Cfb n = not (eqb n 16)
wrong_iv Ofb n = not (eqb n 16)
wrong_iv Ctr n = not (eqb n 16)
wrong_iv Cbc n = not (eqb n 16)
wrong_iv Gcm n = not (eqb n 12) && not (eqb n 16)

-- a retired key does not encrypt
abbrev pub retired_check : Direction → Bool → Checked
retired_check Encrypt retired = refuse retired Retired (Ok tt)
retired_check Decrypt retired = Ok tt

unfoldable pub key_and_iv : KeyAnswer → Bool → Direction → CipherMode → ℕ → Checked
key_and_iv a retired dir m iv =
    and_then (key_check a)
    (refuse (wrong_iv m iv) WrongIv
    (retired_check dir retired))

-- only Gcm looks at the label
abbrev pub label_check : CipherMode → ℕ → Checked
label_check Cfb n = Ok tt
label_check Ofb n = Ok tt
label_check Ctr n = Ok tt
label_check Cbc n = Ok tt
label_check Gcm n = refuse (ltb limit n) TooLong (Ok tt)

-- the lengths of data to decrypt that are no message's
abbrev pub shape_check : Direction → CipherMode → ℕ → Checked
shape_check Encrypt m n = Ok tt
shape_check Decrypt Cfb n = Ok tt
shape_check Decrypt Ofb n = Ok tt
shape_check Decrypt Ctr n = Ok tt
shape_check Decrypt Cbc n =
    refuse (eqb n 0) EmptyCbc
    (refuse (not (eqb (n % 16) 0)) ErrorDataLen
    (Ok tt))
shape_check Decrypt Gcm n = refuse (ltb n 16) (ShortGcm (16 - n)) (Ok tt)

unfoldable pub data_check : Direction → CipherMode → ℕ → Checked
data_check dir m n = refuse (ltb (limit_of dir m) n) TooLong (shape_check dir m n)

unfoldable pub room_check : Direction → CipherMode → ℕ → ℕ → Checked
room_check dir m n room = refuse (ltb room (room_of m dir n)) NoRoom (Ok tt)

-- a message, either way
unfoldable pub message_check : KeyAnswer → Bool → Direction → CipherMode → Lengths → Checked
message_check a retired dir m n =
    and_then (key_and_iv a retired dir m n.iv)
    (and_then (label_check m n.label)
    (and_then (data_check dir m n.«data»)
    (room_check dir m n.«data» n.room)))

-- a single block of n bytes, either way
unfoldable pub block_check : KeyAnswer → Bool → Direction → ℕ → ℕ → Checked
block_check a retired dir n room =
    and_then (key_check a)
    (refuse (not (eqb n 16)) WrongBlock
    (and_then (retired_check dir retired)
    (refuse (ltb room 16) NoRoom
    (Ok tt))))

-- a call: what was refused, with the output o as it was lent, or what comes next
abbrev pub checked : Checked → List ℕ → Outcome → Outcome
checked (Ok _) o next = next
checked (Err r) o next = leaving (refusal_head r) o
