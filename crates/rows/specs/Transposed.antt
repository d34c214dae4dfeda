-- Eight matrices of 64 x 64 bits side by side, transposed by masked swaps: row r of matrix j is word 8 r + j.
use Rattle.std.specs.Prelude.{◌≡◌, List, ℕ, ◌+◌, ◌*◌, ◌^◌, ◌<◌, ◌≤◌, get_or, length}
use Rattle.lanes.specs.Bits.{bit}
use Rattle.lanes.specs.Swaps.{first_swapped, second_swapped}

-- bit c of row r of matrix j
unfoldable pub at : List ℕ → ℕ → ℕ → ℕ → ℕ
at a j r c = bit c (get_or a (8 * r + j) 0)

-- all eight are transposed
abbrev pub Turned : List ℕ → List ℕ → Type 0
Turned a₀ a = (j r c : ℕ) → j < 8 → r < 64 → c < 64 → at a j r c ≡ at a₀ j c r

-- the words at p and q of a list have changed places under a mask
pub record Pair (d m p q : ℕ) (a₀ a : List ℕ) : Type 0 where
  pub first : get_or a p 0 ≡ first_swapped d m (get_or a₀ p 0) (get_or a₀ q 0)
  pub second : get_or a q 0 ≡ second_swapped d m (get_or a₀ p 0) (get_or a₀ q 0)
  pub first_small : get_or a p 0 < 2 ^ 64
  pub second-small : get_or a q 0 < 2 ^ 64

-- with the first e of w words from g on and those w further on; the other words stand as they were
pub record Swapped (d m g w e : ℕ) (a₀ a : List ℕ) : Type 0 where
  pub size : length a ≡ 512
  pub pairs : (r : ℕ) → r < e → Pair d m (g + r) (g + r + w) a₀ a
  pub rest : (p : ℕ) → ((r : ℕ) → r < e → (p ≡ g + r → ⊥) × (p ≡ g + r + w → ⊥)) → get_or a p 0 ≡ get_or a₀ p 0

-- and with n groups of 2 w words
pub record Staged (d m w n : ℕ) (a₀ a : List ℕ) : Type 0 where
  pub size : length a ≡ 512
  pub pairs : (i r : ℕ) → i < n → r < w → Pair d m (2 * w * i + r) (2 * w * i + r + w) a₀ a
  pub rest : (p : ℕ) → 2 * w * n ≤ p → get_or a p 0 ≡ get_or a₀ p 0
