-- The exported calls: what each one leaves, from the inputs alone.
use Rattle.std.specs.Prelude.{ℕ, List, ltb}
use Rattle.cipher_mode.specs.Outcome.{Head, Outcome, leaving, refuse}
use Rattle.cipher_mode.specs.declared.Direction.{Direction}
use Rattle.cipher_mode.specs.declared.Sm4CipherMode.{Sm4CipherMode}
use Rattle.cipher_mode.specs.Tables.{mode_of}
use Rattle.cipher_mode.specs.Calls.{block_call, mode_call}
use Rattle.luossavin.specs.declared.LuossavinAnswer.{LuossavinAnswer}
use Rattle.luossavin.specs.declared.key.LuossavinKey.{LuossavinKey}
use Rattle.luossavin.specs.Key.{cipher_in}

-- what a host's answer reports
abbrev pub head_in : LuossavinAnswer → Head
head_in r = record { number = r.number; size = r.length; missing = r.missing; came_round = r.came_round; key = r.key }

-- the outcome of a host's answer with the output o
abbrev pub reported : LuossavinAnswer → List ℕ → Outcome
reported r o = leaving (head_in r) o

-- a host's record with the mode that it is used in
abbrev pub mode_in : LuossavinKey → ℕ → Sm4CipherMode
mode_in k mode = record { cipher = cipher_in k; mode = mode_of mode }

unfoldable pub host_block_call : Direction → LuossavinKey → List ℕ → List ℕ → Outcome
host_block_call dir k b o = block_call dir (cipher_in k) b o

-- a mode number above 4 is BadMode, 7, before the key is looked at
unfoldable pub host_mode_call : Direction → ℕ → LuossavinKey → List ℕ → List ℕ → List ℕ → List ℕ → Outcome
host_mode_call dir mode k aad d iv o =
    refuse (ltb 4 mode) 7 o
    (mode_call dir (mode_in k mode) aad d iv o)
