-- Words of blocks in lanes: a plane of 256 words holds one word each of 512 blocks, bit by bit.
use Rattle.std.specs.Prelude.{◌≡◌, List, [], ◌∷◌, ℕ, ◌+◌, ◌*◌, ◌/◌, ◌%◌, ◌^◌, ◌<◌, get_or}
use Rattle.lanes.specs.Bits.{bit, pack}
use Rattle.sliced.specs.declared.Planes.{Planes}

-- the word in lane e of a plane: its bit i is bit e / 8 of word 8 i + e % 8
unfoldable pub lane : List ℕ → ℕ → ℕ
lane x e = pack 32 (λ i. bit (e / 8) (get_or x (8 * i + e % 8) 0))

-- the block in lane e of four planes
abbrev pub lanes : List ℕ → List ℕ → List ℕ → List ℕ → ℕ → List ℕ
lanes a b c d e = lane a e ∷ lane b e ∷ lane c e ∷ lane d e ∷ []

abbrev pub block_in : Planes → ℕ → List ℕ
block_in p = lanes p.x0 p.x1 p.x2 p.x3

-- of the first m words of s, those in the first n columns hold the words f of the lanes, bit 0 again after bit 31
abbrev pub Held : (ℕ → ℕ) → ℕ → ℕ → List ℕ → Type 0
Held f n m s = (p k : ℕ) → p < m → p % 8 < n → k < 64 → bit k (get_or s p 0) ≡ bit (p / 8 % 32) (f (8 * k + p % 8))

-- transposed halves a in two planes, that of their upper rows and that of their lower rows: the first i words of each
pub record Parted (i : ℕ) (a upper lower : List ℕ) : Type 0 where
  pub up : (m : ℕ) → m < i → get_or a (m + 256) 0 ≡ get_or upper m 0
  pub low : (m : ℕ) → m < i → get_or a m 0 ≡ get_or lower m 0

-- the halves a, each with its words in two planes
abbrev pub Halved : List ℕ → List ℕ → List ℕ → Type 0
Halved a high low = (e : ℕ) → e < 512 → (get_or a e 0 / 2 ^ 32 % 2 ^ 32 ≡ lane high e) × (get_or a e 0 % 2 ^ 32 ≡ lane low e)
