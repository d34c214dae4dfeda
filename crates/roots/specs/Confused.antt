-- Pairs of a label and a ciphertext, their hash before it is masked, and which H confuse two of them.
use Rattle.std.specs.Prelude.{◌≡◌, List, ℕ, ◌+◌, length}
use Rattle.block.specs.Below.{AreBytes}
use Rattle.ghash.specs.Ghash.{block_count, Hashable, auth_blocks, ghash}

pub record Pair : Type 0 where
  pub label : List ℕ
  pub ciphertext : List ℕ

-- label and ciphertext are bytes, and not too many to be hashed
pub record Sound (p : Pair) : Type 0 where
  pub label-bytes : AreBytes p.label
  pub ciphertext-bytes : AreBytes p.ciphertext
  pub label-length : Hashable (length p.label)
  pub ciphertext-length : Hashable (length p.ciphertext)

-- what is hashed of a pair
abbrev pub hashed : Pair → List ℕ
hashed p = auth_blocks p.label p.ciphertext

-- how many blocks that are: the label's, the ciphertext's and the length block
abbrev pub hashed_count : Pair → ℕ
hashed_count p = block_count (length p.label) + block_count (length p.ciphertext) + 1

-- any hash of pairs, by its H
abbrev pub PairHash : Type 0
PairHash = ℕ → Pair → ℕ

-- GCM's, which the cipher of J0 masks to make the tag
abbrev pub pair_hash : PairHash
pair_hash h p = ghash h (hashed p)

-- h gives the two pairs the same hash
abbrev pub Confuses : PairHash → Pair → Pair → ℕ → Type 0
Confuses hash p q h = hash h p ≡ hash h q
