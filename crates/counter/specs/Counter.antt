-- The two counter steps, on a block of sixteen bytes.
use Rattle.std.specs.Prelude.{ℕ, ◌+◌, ◌%◌, ◌^◌, Bool, true, false, List, ◌++◌, take, drop, ◌==◌}
use Rattle.block.specs.BigEndian.{number_of, bytes_of}

-- Ctr: one more over all sixteen bytes, and all ff is followed by all 00
unfoldable pub ctr_next : List ℕ → List ℕ
ctr_next c = bytes_of 16 ((number_of c + 1) % 2 ^ 128)

-- Ctr's counter k blocks on: k more over all sixteen bytes
unfoldable pub ctr_jump : List ℕ → ℕ → List ℕ
ctr_jump c k = bytes_of 16 ((number_of c + k) % 2 ^ 128)

-- GCM: one more in the last four bytes, ff ff ff ff followed by 00 00 00 00; the first twelve are kept
unfoldable pub gcm_next : List ℕ → List ℕ
gcm_next c = take 12 c ++ bytes_of 4 ((number_of (drop 12 c) + 1) % 2 ^ 32)

-- GCM's counter k blocks on: k more in the last four bytes
unfoldable pub gcm_jump : List ℕ → ℕ → List ℕ
gcm_jump c k = take 12 c ++ bytes_of 4 ((number_of (drop 12 c) + k) % 2 ^ 32)

-- Ctr's where all sixteen bytes count, else GCM's
abbrev pub jumped : Bool → List ℕ → ℕ → List ℕ
jumped true c k = ctr_jump c k
jumped false c k = gcm_jump c k

-- the number in the last four bytes
abbrev pub last_four : List ℕ → ℕ
last_four c = number_of (drop 12 c)

-- whether a step passes from all ones to zero: Ctr's in all sixteen bytes, GCM's in the last four
unfoldable pub ctr_passes : List ℕ → Bool
ctr_passes c = number_of c + 1 == 2 ^ 128

unfoldable pub gcm_passes : List ℕ → Bool
gcm_passes c = last_four c + 1 == 2 ^ 32
