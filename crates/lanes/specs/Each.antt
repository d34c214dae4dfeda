-- Numbers that stand in a list, one by one.
use Rattle.std.specs.Prelude.{◌≡◌, List, ℕ, ◌<◌, get_or}

-- the first n words of a are those of f
abbrev pub Each : (ℕ → ℕ) → ℕ → List ℕ → Type 0
Each f n a = (g : ℕ) → g < n → get_or a g 0 ≡ f g
