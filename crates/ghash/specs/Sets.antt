-- Hashes side by side: sets of n blocks, and what the state of n such hashes stands for.
use Rattle.std.specs.Prelude.{◌≡◌, ◌⊎◌, List, [], ◌∷◌, ℕ, zero, suc, ◌*◌, ◌<◌, drop}
use Rattle.ghash.specs.Ghash.{block_of, hash_from, ghash}

-- how many there may be
abbrev pub LaneCount : ℕ → Type 0
LaneCount n = (n ≡ 8) ⊎ (n ≡ 16)

-- the numbers f 0 .. f (n - 1)
unfoldable pub up_to : ℕ → (ℕ → ℕ) → List ℕ
up_to zero f = []
up_to (suc n) f = f 0 ∷ up_to n (λ i. f (suc i))

-- block i of bytes
abbrev pub block_number : List ℕ → ℕ → ℕ
block_number bs i = block_of (drop (16 * i) bs)

-- of n hashes f y is the first, and the others are 0
pub record Starts (n y : ℕ) (f : ℕ → ℕ) : Type 0 where
  pub first : f 0 ≡ y
  pub others : (k : ℕ) → suc k < n → f (suc k) ≡ 0

-- the n hashed like blocks are the hash of the blocks bs from y on
abbrev pub Hashed : ℕ → ℕ → List ℕ → ℕ → (ℕ → ℕ) → Type 0
Hashed h y bs n f = ghash h (up_to n f) ≡ hash_from h y bs
