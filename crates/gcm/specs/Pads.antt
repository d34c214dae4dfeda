-- What stands ready for a short text: the ciphers of the zero block, of J0 and of the counters behind it.
use Rattle.std.specs.Prelude.{◌≡◌, List, ℕ, ◌+◌, ◌≤◌, length, take, drop, replicate}
use Rattle.block.specs.Xor.{xors}
use Rattle.cipher.specs.Sm4.{encrypt_block}
use Rattle.gcm.specs.Gcm.{text_of}

-- the pads are those of a text of n bytes under round keys and J0: H in bytes, the mask of the tag, and what the text is xored with
pub record PadsFor (rk j : List ℕ) (n : ℕ) (pads : List ℕ) : Type 0 where
  pub room : n + 32 ≤ length pads
  pub zeros : take 16 pads ≡ encrypt_block rk (replicate 16 0)
  pub mask : take 16 (drop 16 pads) ≡ encrypt_block rk j
  pub text : (d : List ℕ) → length d ≡ n → xors d (drop 32 pads) ≡ text_of rk j d
