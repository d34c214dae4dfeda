-- The keys of a replay. A record that is no key is looked at as any other: its number is 0, and every call on it answers as its
-- set-up did.
use Rattle.std.specs.Prelude.{ℕ, ◌+◌, Bool, false, ◌||◌, cond, List, [], ◌∷◌, ltb, eqb, length, get_or, take}
use Rattle.std.specs.Prelude.{Option, Some, None}
use Rattle.cipher_mode.specs.declared.KeyAnswer.TheVariants.{ErrorBlockSize}
use Rattle.cipher_mode.specs.declared.Sm4Cipher.{Sm4Cipher}
use Rattle.cipher_mode.specs.Key.{no_cipher, key_number}
use Rattle.journal.specs.declared.keys.Keys.{Keys}

-- the keys that are lent
abbrev pub keys_in : Keys → List Sm4Cipher
keys_in k = take k.count k.keys

-- which of them has a number, counted from 0; as many as there are where none has
unfoldable pub place_of : ℕ → List Sm4Cipher → ℕ
place_of n [] = 0
place_of n (c ∷ cs) = cond (eqb (key_number c) n) 0 (1 + place_of n cs)

abbrev pub has_number : ℕ → List Sm4Cipher → Bool
has_number n cs = ltb (place_of n cs) (length cs)

abbrev pub key_at : List Sm4Cipher → ℕ → Sm4Cipher
key_at cs i = get_or cs i (no_cipher ErrorBlockSize)

-- the key that has a number
abbrev pub key_of : ℕ → List Sm4Cipher → Sm4Cipher
key_of n cs = key_at cs (place_of n cs)

-- the same, if one has it
abbrev pub key_found : ℕ → List Sm4Cipher → Option Sm4Cipher
key_found n cs = cond (has_number n cs) (Some (key_of n cs)) None

unfoldable pub any_retired : List Sm4Cipher → Bool
any_retired [] = false
any_retired (c ∷ cs) = c.retired || any_retired cs

unfoldable pub number_twice : List Sm4Cipher → Bool
number_twice [] = false
number_twice (c ∷ cs) = has_number (key_number c) cs || number_twice cs

-- over eight keys, a retired one, or a number twice
unfoldable pub bad_keys : Keys → Bool
bad_keys k = ltb 8 k.count || (any_retired (keys_in k) || number_twice (keys_in k))
