-- What is refused of a start, a piece and an end, in the order of W3: what the state stands at, the lengths, the tag, the room.
use Rattle.std.specs.Prelude.{ℕ, ◌+◌, ◌-◌, Bool, not, cond, eqb, ltb, Ok, Err}
use Rattle.cipher_mode.specs.declared.KeyAnswer.{KeyAnswer}
use Rattle.cipher_mode.specs.declared.CipherMode.TheVariants.{Gcm}
use Rattle.cipher_mode.specs.declared.Direction.{Direction}
use Rattle.cipher_mode.specs.declared.answer.Refusal.TheVariants.{ErrorBlockSize, TooLong, NoRoom, ShortGcm, WrongIv, Ended, WrongNumber}
use Rattle.cipher_mode.specs.declared.answer.Refusal.TheVariants.{Retired}
use Rattle.cipher_mode.specs.Checks.{Checked, refuse, and_then, key_and_iv, label_check}
use Rattle.cipher_mode.specs.Tables.{limit}

-- a start of Gcm with an IV and a label of these lengths, as in the single call
unfoldable pub gcm_starting : KeyAnswer → Bool → Direction → ℕ → ℕ → Checked
gcm_starting a retired dir iv label = and_then (key_and_iv a retired dir Gcm iv) (label_check Gcm label)

-- 0 is a running state, and 1, 5, 10, 13 and 14 are refused starts, which every call refuses alike; every other mark is an ended
-- message's
unfoldable pub standing : ℕ → Checked
standing mark =
    cond (eqb mark 0) (Ok tt)
    (refuse (eqb mark 1) ErrorBlockSize
    (refuse (eqb mark 5) TooLong
    (refuse (eqb mark 10) WrongIv
    (refuse (eqb mark 13) WrongNumber
    (refuse (eqb mark 14) Retired
    (Err Ended))))))

-- n bytes more, behind a label and a total of these lengths; an end counts none
unfoldable pub running : ℕ → ℕ → ℕ → ℕ → Checked
running mark label total n =
    and_then (standing mark)
    (refuse (ltb limit label) TooLong
    (refuse (ltb limit (total + n)) TooLong
    (Ok tt)))

-- and so many bytes are written
unfoldable pub writing : ℕ → ℕ → ℕ → ℕ → ℕ → ℕ → Checked
writing mark label total n written room =
    and_then (running mark label total n)
    (refuse (ltb room written) NoRoom
    (Ok tt))

-- or a tag is handed in; of a longer one no byte is missing
unfoldable pub tagged : ℕ → ℕ → ℕ → ℕ → Checked
tagged mark label total tag =
    and_then (running mark label total 0)
    (refuse (not (eqb tag 16)) (ShortGcm (16 - tag))
    (Ok tt))
