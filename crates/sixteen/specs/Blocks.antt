-- Up to 64 blocks side by side: the words of block j are word j of four rows of 64 words. Sixteen words, from a multiple of sixteen on, are
-- a group.
use Rattle.std.specs.Prelude.{◌≡◌, List, [], ◌∷◌, ℕ, ◌+◌, ◌*◌, ◌/◌, ◌%◌, ◌^◌, ◌<◌, ◌≤◌, get_or}
use Rattle.block.specs.Xor.{◌⊕◌}
pub use Rattle.lanes.specs.Each.{Each}

-- words 2 i and 2 i + 1 as one
abbrev pub pair_at : List ℕ → ℕ → ℕ
pair_at t i = get_or t (2 * i + 1) 0 * 2 ^ 32 + get_or t (2 * i) 0

-- the words of group g, two by two
abbrev pub Paired : List ℕ → ℕ → List ℕ → Type 0
Paired t g r = (i : ℕ) → i < 8 → (get_or r i 0 ≡ pair_at t (8 * g + i)) × (get_or t (2 * (8 * g + i)) 0 < 2 ^ 32)

-- the halves of eight words are the words of f in group g
abbrev pub Halves : (ℕ → ℕ) → ℕ → List ℕ → Type 0
Halves f g z =
    (i : ℕ) → i < 8 → (f (16 * g + 2 * i) ≡ get_or z i 0 % 2 ^ 32) × (f (16 * g + 2 * i + 1) ≡ get_or z i 0 / 2 ^ 32 % 2 ^ 32)

-- where row i begins, counted round
abbrev pub row : ℕ → ℕ
row i = i % 4 * 64

-- block j, its first word in row i
abbrev pub block : List ℕ → ℕ → ℕ → List ℕ
block x i j = get_or x (row i + j) 0 ∷ get_or x (row (i + 1) + j) 0 ∷ get_or x (row (i + 2) + j) 0 ∷ get_or x (row (i + 3) + j) 0 ∷ []

-- the first m blocks are those of f
abbrev pub Held : ℕ → (ℕ → List ℕ) → List ℕ → Type 0
Held m f x = (j : ℕ) → j < m → block x 0 j ≡ f j

-- what goes into the S-boxes of block j in round i, by k
abbrev pub keyed : List ℕ → ℕ → ℕ → ℕ → ℕ
keyed x i k j = get_or x (row (i + 1) + j) 0 ⊕ get_or x (row (i + 2) + j) 0 ⊕ get_or x (row (i + 3) + j) 0 ⊕ k

-- y is x with n words from place a on that are those of f
pub record Changed (a n : ℕ) (f : ℕ → ℕ) (x y : List ℕ) : Type 0 where
  pub new : (j : ℕ) → j < n → get_or y (a + j) 0 ≡ f j
  pub below : (p : ℕ) → p < a → get_or y p 0 ≡ get_or x p 0
  pub above : (p : ℕ) → a + n ≤ p → get_or y p 0 ≡ get_or x p 0
