-- Bits of two words that change places under a mask.
use Rattle.std.specs.Prelude.{ℕ, ◌*◌, ◌/◌, ◌%◌, ◌^◌}
use Rattle.std.specs.Int.Bits.{bit_and}
use Rattle.block.specs.Xor.{◌⊕◌}

-- where bit c + d of x and bit c of y differ, for each bit c of the mask m
abbrev pub differing : ℕ → ℕ → ℕ → ℕ → ℕ
differing d m x y = bit_and (x / 2 ^ d ⊕ y) m

-- x and y once these bits have changed places
unfoldable pub first_swapped : ℕ → ℕ → ℕ → ℕ → ℕ
first_swapped d m x y = x ⊕ differing d m x y * 2 ^ d % 2 ^ 64

unfoldable pub second_swapped : ℕ → ℕ → ℕ → ℕ → ℕ
second_swapped d m x y = y ⊕ differing d m x y
