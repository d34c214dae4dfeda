-- A plan for n bytes in words, piece by piece: the pieces are at most 64, the first starts at 0, each starts where the one before ends, the
-- last ends at n, none is empty, each length but the last divides by 16, and no pieces are for no bytes. The check says yes to these alone.
use Rattle.std.specs.Prelude.{◌≡◌, List, ◌≢◌, ℕ, suc, ◌+◌, ◌%◌, ◌≤◌, ◌<◌, get_or}
use Rattle.ranges.specs.declared.plan.Plan.{Plan}

-- piece i of `count`
pub record Piece (starts lengths : List ℕ) (count n i : ℕ) : Type 0 where
  pub not-empty : get_or lengths i 0 ≢ 0
  pub goes_on_lem : suc i < count → (get_or lengths i 0 % 16 ≡ 0) × (get_or starts (suc i) 0 ≡ get_or starts i 0 + get_or lengths i 0)
  pub ends : suc i ≡ count → get_or starts i 0 + get_or lengths i 0 ≡ n

-- all that the check asks
pub record Reading (p : Plan) (n : ℕ) : Type 0 where
  pub few : p.count ≤ 64
  pub none : p.count ≡ 0 → n ≡ 0
  pub first : 0 < p.count → get_or p.starts 0 0 ≡ 0
  pub piece : (i : ℕ) → i < p.count → Piece p.starts p.lengths p.count n i
