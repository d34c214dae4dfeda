-- Up to sixteen numbers side by side.
use Rattle.std.specs.Prelude.{◌≡◌, ℕ, ◌<◌, get_or}
use Rattle.block.specs.Wide.{whole}
use Rattle.carryless.specs.declared.many.Numbers.{Numbers}
pub use Rattle.lanes.specs.Each.{Each}

-- number g of 128 bits
abbrev pub lane : Numbers → ℕ → ℕ
lane z g = whole (get_or z.high g 0) (get_or z.low g 0)

-- the first n numbers are those of f
abbrev pub Both : (ℕ → ℕ) → ℕ → Numbers → Type 0
Both f n z = (g : ℕ) → g < n → lane z g ≡ f g
