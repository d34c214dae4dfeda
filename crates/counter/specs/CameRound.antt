-- Whether the counter of a whole message came round: the formula of W8, over b blocks of data.
use Rattle.std.specs.Prelude.{ℕ, zero, suc, ◌+◌, ◌-◌, ◌/◌, ◌^◌, Bool, false, ◌&&◌, ◌||◌, List, nat_le}
use Rattle.block.specs.BigEndian.{number_of}

-- the blocks of n bytes, rounded up
abbrev pub blocks_of : ℕ → ℕ
blocks_of n = (n + 15) / 16

-- Ctr: b is at least 1, and the IV as a number plus b - 1 reaches 2^128
unfoldable pub ctr_came_round : List ℕ → ℕ → Bool
ctr_came_round iv b = nat_le 1 b && nat_le (2 ^ 128) (number_of iv + (b - 1))

-- GCM: the number in J0's last four bytes plus b reaches 2^32
unfoldable pub gcm_came_round : ℕ → ℕ → Bool
gcm_came_round low b = nat_le (2 ^ 32) (low + b)

-- what the steps themselves say: whether one of the first n steps from the counter c on passes
unfoldable pub any_passes : (List ℕ → List ℕ) → (List ℕ → Bool) → ℕ → List ℕ → Bool
any_passes next passes zero c = false
any_passes next passes (suc n) c = passes c || any_passes next passes n (next c)
