-- The tables of docs/REQUIREMENTS.md: the modes by number, the length limits, and the room needed.
use Rattle.std.specs.Prelude.{ℕ, zero, suc, ◌+◌, ◌-◌, ◌*◌, ◌/◌, cond, ltb, Result, Ok, Err}
use Rattle.cipher_mode.specs.declared.CipherMode.{CipherMode}
use Rattle.cipher_mode.specs.declared.CipherMode.TheVariants.{Cfb, Ofb, Ctr, Cbc, Gcm}
use Rattle.cipher_mode.specs.declared.BadMode.{BadMode}
use Rattle.cipher_mode.specs.declared.Direction.{Direction}
use Rattle.cipher_mode.specs.declared.Direction.TheVariants.{Encrypt, Decrypt}

-- 0 Cfb, 1 Ofb, 2 Ctr, 3 Cbc, 4 Gcm; a number above 4 is refused before this is asked
unfoldable pub mode_of : ℕ → CipherMode
mode_of zero = Cfb
mode_of (suc zero) = Ofb
mode_of (suc (suc zero)) = Ctr
mode_of (suc (suc (suc zero))) = Cbc
mode_of (suc (suc (suc (suc n)))) = Gcm

-- the mode of a number, where it is one's
abbrev pub mode_numbered : ℕ → Result CipherMode BadMode
mode_numbered n = cond (ltb 4 n) (Err (record {})) (Ok (mode_of n))

-- data to encrypt, in every mode, and Gcm's label
abbrev pub limit : ℕ
limit = 16777216

-- data to decrypt that has a block of padding or a tag
abbrev pub sealed_limit : ℕ
sealed_limit = limit + 16

abbrev pub limit_of : Direction → CipherMode → ℕ
limit_of Encrypt m = limit
limit_of Decrypt Cfb = limit
limit_of Decrypt Ofb = limit
limit_of Decrypt Ctr = limit
limit_of Decrypt Cbc = sealed_limit
limit_of Decrypt Gcm = sealed_limit

-- room for n bytes of data, which is also the length of an encrypted message
abbrev pub room_of : CipherMode → Direction → ℕ → ℕ
room_of Cfb dir n = n
room_of Ofb dir n = n
room_of Ctr dir n = n
room_of Cbc Encrypt n = 16 * (n / 16 + 1)
room_of Cbc Decrypt n = n
room_of Gcm Encrypt n = n + 16
room_of Gcm Decrypt n = n - 16
