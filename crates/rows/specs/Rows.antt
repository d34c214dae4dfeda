-- Blocks in rows: block i stands in row i % 64 of column i / 64, its halves at one place of two arrays of 512 words.
use Rattle.std.specs.Prelude.{◌≡◌, List, ℕ, ◌+◌, ◌*◌, ◌/◌, ◌%◌, ◌^◌, ◌<◌, length, get_or}
use Rattle.block.specs.Below.{AreWords}
use Rattle.block.specs.Blocks.{block_at, cat}
use Rattle.block.specs.Words.{unwords}
use Rattle.block.specs.Xor.{xors}

-- the word of row r in column j is word 8 r + j
abbrev pub place : ℕ → ℕ
place i = 8 * (i % 64) + i / 64

-- the halves of a block of four words
pub record Row (x : List ℕ) (hi lo : ℕ) : Type 0 where
  pub four : length x ≡ 4
  pub small : AreWords x
  pub high : hi ≡ get_or x 0 0 * 2 ^ 32 + get_or x 1 0
  pub low : lo ≡ get_or x 2 0 * 2 ^ 32 + get_or x 3 0

-- the first m blocks of f stand in rows
pub record Rows (m : ℕ) (f : ℕ → List ℕ) (a b : List ℕ) : Type 0 where
  pub size_a : length a ≡ 512
  pub size_b : length b ≡ 512
  pub row : (i : ℕ) → i < m → Row (f i) (get_or a (place i) 0) (get_or b (place i) 0)

-- the first m blocks of f, each xored with its block of d
abbrev pub xored_blocks : ℕ → List ℕ → (ℕ → List ℕ) → List ℕ
xored_blocks m d f = cat m (λ i. xors (block_at d i) (unwords (f i)))
