-- What stands in four lanes of words.
use Rattle.std.specs.Prelude.{ℕ, ◌+◌, ◌*◌, ◌^◌, List}
use Rattle.lanes.specs.Bits.{bit, byte_lane}

-- lanes 0, 8, 16 and 24 of a word, and of eight words
abbrev pub four_lanes : ℕ → ℕ
four_lanes w = bit 24 w * 2 ^ 24 + bit 16 w * 2 ^ 16 + bit 8 w * 2 ^ 8 + bit 0 w

abbrev pub four_bytes : List ℕ → ℕ
four_bytes o = byte_lane o 24 * 2 ^ 24 + byte_lane o 16 * 2 ^ 16 + byte_lane o 8 * 2 ^ 8 + byte_lane o 0
