-- How far a walk has come.
use Rattle.std.specs.Prelude.{◌≡◌, ℕ, ◌≤◌, List, ◌++◌, length, take, drop}
use Rattle.block.specs.Over.{over}
use Rattle.walk.specs.Walk.{Mode, chain, end_state}

-- the walk over d from the state s on, whose output was o, has come to `at`, to the state s' and the output o': if it goes on from
-- there, it ends in the state, and leaves the bytes, that the whole walk does
pub record Reached (m : Mode) (s d o s' o' : List ℕ) (at : ℕ) : Type 0 where
  pub within : at ≤ length d
  pub size : length o' ≡ length o
  pub ends : end_state m s' (drop at d) ≡ end_state m s d
  pub leaves : take at o' ++ over (chain m s' (drop at d)) (drop at o') ≡ over (chain m s d) o
