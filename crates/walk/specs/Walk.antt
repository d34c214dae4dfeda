-- A mode of operation, and the one walk over a message that serves all of them. A block is sixteen bytes.
use Rattle.std.specs.Prelude.{ℕ, zero, suc, ◌/◌, List, ◌++◌, length, take, drop}

-- a mode, by what it does in a state s
pub record Mode : Type 0 where
  -- what a full block gives
  pub block : List ℕ → List ℕ → List ℕ
  -- the state after a full block
  pub next : List ℕ → List ℕ → List ℕ
  -- what a rest shorter than a block gives
  pub rest : List ℕ → List ℕ → List ℕ

-- n full blocks of d, then the rest
unfoldable pub walk : Mode → ℕ → List ℕ → List ℕ → List ℕ
walk m zero s d = m.rest s d
walk m (suc n) s d = m.block s (take 16 d) ++ walk m n (m.next s (take 16 d)) (drop 16 d)

-- what the message d gives from the state s on
unfoldable pub chain : Mode → List ℕ → List ℕ → List ℕ
chain m s d = walk m (length d / 16) s d

-- the state after n full blocks of d
unfoldable pub stepped : Mode → ℕ → List ℕ → List ℕ → List ℕ
stepped m zero s d = s
stepped m (suc n) s d = stepped m n (m.next s (take 16 d)) (drop 16 d)

-- the state that the walk over d ends in
unfoldable pub end_state : Mode → List ℕ → List ℕ → List ℕ
end_state m s d = stepped m (length d / 16) s d
