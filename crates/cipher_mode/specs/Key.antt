-- The key's record: setting it up, from the bytes and the number alone; retiring it; marking its engine; the number that it answers
-- with.
use Rattle.std.specs.Prelude.{ℕ, Bool, true, false, not, ◌||◌, cond, List, eqb, ltb, length, replicate}
use Rattle.cipher.specs.Sm4.{round_keys}
use Rattle.cipher_mode.specs.Outcome.{Head, finished, refusal}
use Rattle.cipher_mode.specs.declared.KeyAnswer.{KeyAnswer}
use Rattle.cipher_mode.specs.declared.KeyAnswer.TheVariants.{Key, ErrorBlockSize, WrongNumber}
use Rattle.cipher_mode.specs.declared.Sm4Cipher.{Sm4Cipher}
use Rattle.cipher_mode.specs.declared.CipherMode.{CipherMode}
use Rattle.cipher_mode.specs.declared.Sm4CipherMode.{Sm4CipherMode}

-- number and length for a key's answer
abbrev pub key_head : KeyAnswer → Head
key_head Key = finished 0
key_head ErrorBlockSize = refusal 1
key_head WrongNumber = refusal 13

-- a record of no usable key, with 32 zero words
abbrev pub no_cipher : KeyAnswer → Sm4Cipher
no_cipher a = record { rk = replicate 32 0; answer = a; number = 0; retired = false; engine = 0 }

-- a key's number is 1 to 65,535
abbrev pub wrong_number : ℕ → Bool
wrong_number n = eqb n 0 || ltb 65535 n

-- a key has 16 bytes and a number in range; a new one is unretired, and its engine is for the library to choose
unfoldable pub new_cipher : List ℕ → ℕ → Sm4Cipher
new_cipher key number =
    cond (not (eqb (length key) 16)) (no_cipher ErrorBlockSize)
    (cond (wrong_number number) (no_cipher WrongNumber)
    (record { rk = round_keys key; answer = Key; number = number; retired = false; engine = 0 }))

-- the record retired; of no key the same no key
abbrev pub retired_if : KeyAnswer → Sm4Cipher → Sm4Cipher
retired_if Key c = record { rk = c.rk; answer = Key; number = c.number; retired = true; engine = c.engine }
retired_if ErrorBlockSize c = c
retired_if WrongNumber c = c

unfoldable pub retire : Sm4Cipher → Sm4Cipher
retire c = retired_if c.answer c

-- the record with the mark e of an engine
unfoldable pub with_engine : ℕ → Sm4Cipher → Sm4Cipher
with_engine e c = record { rk = c.rk; answer = c.answer; number = c.number; retired = c.retired; engine = e }

-- the number that every answer of a call on the record repeats: 0 where no key stands
abbrev pub number_in : KeyAnswer → ℕ → ℕ
number_in Key n = n
number_in ErrorBlockSize n = 0
number_in WrongNumber n = 0

abbrev pub key_number : Sm4Cipher → ℕ
key_number c = number_in c.answer c.number

unfoldable pub new_cipher_mode : List ℕ → ℕ → CipherMode → Sm4CipherMode
new_cipher_mode key number mode = record { cipher = new_cipher key number; mode = mode }
