-- The exported question whether a file opens under a job and an edition: what it answers. It writes nothing.
use Rattle.std.specs.Prelude.{ℕ, cond, List, length, Ok, Err}
use Rattle.cipher_mode.specs.Outcome.{Head, finished, refusal, under}
use Rattle.cipher_mode.specs.declared.CipherMode.TheVariants.{Gcm}
use Rattle.cipher_mode.specs.declared.Direction.TheVariants.{Decrypt}
use Rattle.cipher_mode.specs.declared.Sm4Cipher.{Sm4Cipher}
use Rattle.cipher_mode.specs.Answer.{refusal_head}
use Rattle.cipher_mode.specs.Checks.{Checked, and_then, key_and_iv, data_check}
use Rattle.cipher_mode.specs.Key.{key_number}
use Rattle.editions.specs.Which.{opens_with}
use Rattle.label.specs.Label.{label_of}
use Rattle.luossavin.specs.declared.key.LuossavinKey.{LuossavinKey}
use Rattle.luossavin.specs.Key.{cipher_in}

-- what was refused, or what comes next
abbrev pub checked_head : Checked → Head → Head
checked_head (Ok _) next = next
checked_head (Err r) next = refusal_head r

-- key and IV (1, 13, 10), the file's length (5, 9), and then its tag under a label: 0 where it is right, and otherwise 4
unfoldable pub opens_head : Sm4Cipher → List ℕ → List ℕ → List ℕ → Head
opens_head c label file iv =
    checked_head
    (and_then (key_and_iv c.answer c.retired Decrypt Gcm (length iv))
    (data_check Decrypt Gcm (length file)))
    (cond (opens_with c iv file label) (finished 0) (refusal 4))

unfoldable pub host_edition_opens : LuossavinKey → ℕ → ℕ → List ℕ → List ℕ → Head
host_edition_opens k job edition file iv = under (key_number (cipher_in k)) (opens_head (cipher_in k) (label_of job edition) file iv)
