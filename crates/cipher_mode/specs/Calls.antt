-- The public calls: what each one leaves, from the inputs alone.
use Rattle.std.specs.Prelude.{ℕ, ◌-◌, Bool, cond, List, Result, Ok, Err, reverse, length}
use Rattle.cipher.specs.Sm4.{encrypt_block, decrypt_block}
use Rattle.counter.specs.Counter.{last_four}
use Rattle.counter.specs.CameRound.{blocks_of, ctr_came_round, gcm_came_round}
use Rattle.walk.specs.Walk.{chain}
use Rattle.stream.specs.Stream.{stream_mode}
use Rattle.stream.specs.declared.Kind.{Kind}
use Rattle.stream.specs.declared.Kind.TheVariants.{CfbEncrypt, CfbDecrypt, Ofb as OfbKind, Ctr as CtrKind}
use Rattle.padding.specs.Padding.{unpadded}
use Rattle.padding.specs.declared.BadPadding.{BadPadding}
use Rattle.padding.specs.declared.BadPadding.TheVariants.{InvalidLastU8, InvalidPadding}
use Rattle.cbc.specs.Cbc.{cbc_seal, cbc_text}
use Rattle.gcm.specs.Gcm.{hash_key, J0, sealed, text_part, text_of, opens_under}
use Rattle.cipher_mode.specs.Outcome.{Head, Outcome, finished, refusal, keyed, reporting, written, done}
use Rattle.cipher_mode.specs.declared.CipherMode.{CipherMode}
use Rattle.cipher_mode.specs.declared.CipherMode.TheVariants.{Cfb, Ofb, Ctr, Cbc, Gcm}
use Rattle.cipher_mode.specs.declared.Direction.{Direction}
use Rattle.cipher_mode.specs.declared.Direction.TheVariants.{Encrypt, Decrypt}
use Rattle.cipher_mode.specs.declared.checks.Lengths.{Lengths}
use Rattle.cipher_mode.specs.declared.Sm4Cipher.{Sm4Cipher}
use Rattle.cipher_mode.specs.declared.Sm4CipherMode.{Sm4CipherMode}
use Rattle.cipher_mode.specs.Key.{key_number}
use Rattle.cipher_mode.specs.Checks.{checked, block_check, message_check}

-- the round keys as a direction takes them: decryption from the last to the first
abbrev pub keys_for : Direction → List ℕ → List ℕ
keys_for Encrypt rk = rk
keys_for Decrypt rk = reverse rk

-- one block, by a direction
abbrev pub block_of : Direction → List ℕ → List ℕ → List ℕ
block_of Encrypt rk b = encrypt_block rk b
block_of Decrypt rk b = decrypt_block rk b

-- how a single block b ends, into the output o, whichever key it is on
abbrev pub block_ended : Direction → Sm4Cipher → List ℕ → List ℕ → Outcome
block_ended dir c b o = checked (block_check c.answer c.retired dir (length b) (length o)) o (done (block_of dir c.rk b) o)

-- a single block b, into the output o
unfoldable pub block_call : Direction → Sm4Cipher → List ℕ → List ℕ → Outcome
block_call dir c b o = keyed (key_number c) (block_ended dir c b o)

abbrev pub cfb_kind : Direction → Kind
cfb_kind Encrypt = CfbEncrypt
cfb_kind Decrypt = CfbDecrypt

-- what an opening in Cbc reports, by what is decided of the padding
abbrev pub cbc_head : Result ℕ BadPadding → Head
cbc_head (Ok n) = finished n
cbc_head (Err InvalidLastU8) = refusal 3
cbc_head (Err InvalidPadding) = refusal 15

-- opening the Cbc message d into the output o
unfoldable pub cbc_open : List ℕ → List ℕ → List ℕ → List ℕ → Outcome
cbc_open rk iv d o = written (cbc_head (unpadded (cbc_text rk iv d))) (cbc_text rk iv d) o

-- Cbc pads and opens by its padding
abbrev pub cbc_result : Direction → List ℕ → List ℕ → List ℕ → List ℕ → Outcome
cbc_result Encrypt rk d iv o = done (cbc_seal rk iv d) o
cbc_result Decrypt rk d iv o = cbc_open rk iv d o

-- whether Gcm's counter came round over a text of n bytes
abbrev pub gcm_round : List ℕ → List ℕ → ℕ → Bool
gcm_round rk iv n = gcm_came_round (last_four (J0 rk iv)) (blocks_of n)

-- what an opening in Gcm of a text of n bytes reports: the tag alone decides
abbrev pub gcm_head : Bool → ℕ → Head
gcm_head opens n = cond opens (finished n) (refusal 4)

-- opening the Gcm message s under a label into the output o
unfoldable pub gcm_open : List ℕ → ℕ → List ℕ → List ℕ → List ℕ → List ℕ → Outcome
gcm_open rk h j label s o = written (gcm_head (opens_under rk h j label s) (length s - 16)) (text_of rk j (text_part s)) o

-- Gcm seals and opens under the label aad; the tag is no part of the text
abbrev pub gcm_result : Direction → List ℕ → List ℕ → List ℕ → List ℕ → List ℕ → Outcome
gcm_result Encrypt rk aad d iv o = reporting (gcm_round rk iv (length d)) (done (sealed rk (hash_key rk) (J0 rk iv) aad d) o)
gcm_result Decrypt rk aad d iv o = reporting (gcm_round rk iv (length d - 16)) (gcm_open rk (hash_key rk) (J0 rk iv) aad d o)

-- what the data d gives in a mode, by a direction; the first three modes are done with whatever they are given
abbrev pub mode_result : CipherMode → Direction → List ℕ → List ℕ → List ℕ → List ℕ → List ℕ → Outcome
mode_result Cfb dir rk aad d iv o = done (chain (stream_mode (cfb_kind dir) rk) iv d) o
mode_result Ofb dir rk aad d iv o = done (chain (stream_mode OfbKind rk) iv d) o
mode_result Ctr dir rk aad d iv o = reporting (ctr_came_round iv (blocks_of (length d))) (done (chain (stream_mode CtrKind rk) iv d) o)
mode_result Cbc dir rk aad d iv o = cbc_result dir rk d iv o
mode_result Gcm dir rk aad d iv o = gcm_result dir rk aad d iv o

-- how many bytes a call was lent of each kind
abbrev pub lengths_of : List ℕ → List ℕ → List ℕ → List ℕ → Lengths
lengths_of aad d iv o = record { iv = length iv; label = length aad; «data» = length d; room = length o }

-- how the data d ends under the label aad and the IV iv, into the output o, whichever key it is on
abbrev pub mode_ended : Direction → Sm4CipherMode → List ℕ → List ℕ → List ℕ → List ℕ → Outcome
mode_ended dir m aad d iv o =
    checked (message_check m.cipher.answer m.cipher.retired dir m.mode (lengths_of aad d iv o)) o
    (mode_result m.mode dir m.cipher.rk aad d iv o)

-- the data d under the label aad and the IV iv, into the output o
unfoldable pub mode_call : Direction → Sm4CipherMode → List ℕ → List ℕ → List ℕ → List ℕ → Outcome
mode_call dir m aad d iv o = keyed (key_number m.cipher) (mode_ended dir m aad d iv o)
