-- A stage changes one binary digit of a row's number with that of a bit's number.
use Rattle.block.proofs.Base.{◌%◌, ◌*◌, ◌+◌, ◌-◌, ◌/◌, ◌<◌, ◌≤◌, ℕ, ◌≡◌, List, arith, get_or}
use Rattle.lanes.proofs.Swaps.{digit, Step}
use Rattle.rows.specs.Transposed.{Pair, Staged}

-- the rows of matrix j
abbrev pub rows : List ℕ → ℕ → ℕ → ℕ
rows a j r = get_or a (8 * r + j) 0

-- row r of matrix j, whose digit d is 0, and the row whose digit d is 1, are a pair of a stage
pub record Paired (d w n j r : ℕ) : Type 0 where
  pub group : r / (2 * d) < n
  pub within : 8 * (r % d) + j < w
  pub this : 8 * r + j ≡ 2 * w * (r / (2 * d)) + (8 * (r % d) + j)
  pub that : 8 * (r + d) + j ≡ 2 * w * (r / (2 * d)) + (8 * (r % d) + j) + w

-- what a stage of distance d takes of its places
pub record Places (d w n : ℕ) : Type 0 where
  pub paired : (j r : ℕ) → j < 8 → r < 64 → digit d r ≡ 0 → Paired d w n j r
  pub lower : (r : ℕ) → r < 64 → digit d r ≡ 1 → (digit d (r - d) ≡ 0) × (d ≤ r)

module _ {d m w n : ℕ} (G : Places d w n) {a₀ a : List ℕ} (S : Staged d m w n a₀ a) (j : ℕ) (hj : j < 8) where
  -- the pair of a row whose digit is 0
  pair-at : (r : ℕ) → r < 64 → digit d r ≡ 0 → Pair d m (8 * r + j) (8 * (r + d) + j) a₀ a
  pair-at r hr e =
      let q = G.paired j r hj hr e in
      rw (q.this, q.that) (S.pairs (r / (2 * d)) (8 * (r % d) + j) q.group q.within)

  pub step : Step d m 64 (rows a₀ j) (rows a j)
  step = record {
    upper = λ r hr e. (pair-at r hr e).first;
    lower = λ r hr e.
        let l = G.lower r hr e in
        let z : r - d + d ≡ r = omega arith in
        rw z at (pair-at (r - d) (omega arith) l.0).second;
  }
