-- Counters in lanes: a word of a counter, added in every lane to a number and a carry.
use Rattle.std.specs.Prelude.{◌≡◌, Bool, true, false, List, ℕ, ◌+◌, ◌*◌, ◌/◌, ◌%◌, ◌^◌, ◌<◌, ◌≤◌, length, get_or}
use Rattle.lanes.specs.Bits.{bit, Blank}
use Rattle.sliced.specs.Lanes.{lane}

-- the block that stands in lane e
abbrev pub number_at : ℕ → ℕ
number_at e = 64 * (e % 8) + e / 8

-- the carry of lane e
unfoldable pub carry_at : List ℕ → ℕ → ℕ
carry_at y e = bit (e / 8) (get_or y (e % 8) 0)

-- the bits of m, a and the carries b, added: their sums stand in word p of x and the carries are c; the other words stand as they were
pub record WordAdded (p a b m : ℕ) (x₀ x : List ℕ) (c : ℕ) : Type 0 where
  pub size : length x ≡ 256
  pub sum : (k : ℕ) → bit k (get_or x p 0) + 2 * bit k c ≡ bit k m + bit k a + bit k b
  pub same : (q : ℕ) → (q ≡ p → ⊥) → get_or x q 0 ≡ get_or x₀ q 0

-- the bits of m, added to those of the first j words of a and of their carries: the sums stand in row i of x; the other words stand as they
-- were
pub record RowAdded (m i j : ℕ) (a x₀ y₀ x y : List ℕ) : Type 0 where
  pub size_x : length x ≡ 256
  pub size_y : length y ≡ 8
  pub sum : (q k : ℕ) → q < j
      → bit k (get_or x (8 * i + q) 0) + 2 * bit k (get_or y q 0) ≡ bit k m + bit k (get_or a q 0) + bit k (get_or y₀ q 0)
  pub same_x : (p : ℕ) → ((q : ℕ) → q < j → p ≡ 8 * i + q → ⊥) → get_or x p 0 ≡ get_or x₀ p 0
  pub same_y : (q : ℕ) → j ≤ q → get_or y q 0 ≡ get_or y₀ q 0

-- the word w, added in every lane
abbrev pub Added : ℕ → List ℕ → List ℕ → List ℕ → List ℕ → Type 0
Added w x₀ y₀ x y = (e : ℕ) → e < 512 → lane x e + 2 ^ 32 * carry_at y e ≡ w + lane x₀ e + carry_at y₀ e

-- the carries out of the last word: kept where all words count, else none
abbrev pub Kept : Bool → List ℕ → List ℕ → Type 0
Kept true y₀ y = y ≡ y₀
Kept false y₀ y = Blank y
