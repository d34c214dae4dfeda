-- The code's tests are the formula's: Ctr's over the two halves of the IV's number, GCM's over J0's last word.
use Rattle.block.proofs.Base.{◌*◌, ◌+◌, ◌-◌, ◌<◌, ◌^◌, ◌≤◌, ℕ, ◌∙◌, ◌≡◌, sym, false, List, arith, le-leb, ne_eqb, eqb, leb, ltb}
use Rattle.block.specs.Wide.{whole}
use Rattle.block.specs.BigEndian.{number_of}
use Rattle.std.specs.Int.{div_ceil}
use Rattle.counter.specs.CameRound.{blocks_of, ctr_came_round, gcm_came_round}
use Rattle.counter.proofs.Round.{left_tells, high_full, high-short}

-- the blocks as the library rounds them up
pub rounded_up : (n : ℕ) → div_ceil n 16 ≡ blocks_of n
rounded_up n = omega arith

-- no block, and no step
pub ctr-none : (iv : List ℕ) (b : ℕ) → b ≡ 0 → false ≡ ctr_came_round iv b
unfolding ctr_came_round
ctr-none iv b e = rw e

-- some blocks, from an IV whose number has these halves on
module _ (iv : List ℕ) (b high low : ℕ) (some : b ≡ 0 → ⊥) (v : whole high low ≡ number_of iv) (lows : low < 2 ^ 64) where
  by_halves : leb (2 ^ 64 * 2 ^ 64) (high * 2 ^ 64 + low + (b - 1)) ≡ ctr_came_round iv b
  unfolding ctr_came_round
  by_halves = rw (le-leb 1 b (omega (arith, some)), ← v)

  pub ctr_full : high ≡ 2 ^ 64 - 1 → ltb (2 ^ 64 - 1 - low) (b - 1) ≡ ctr_came_round iv b
  ctr_full e = high_full (2 ^ 64) high low b lows e ∙ by_halves

  pub ctr-short : (high ≡ 2 ^ 64 - 1 → ⊥) → high < 2 ^ 64 → b ≤ 2 ^ 64 → eqb high (2 ^ 64 - 1) ≡ ctr_came_round iv b
  ctr-short n h l = ne_eqb high (2 ^ 64 - 1) n ∙ sym (high-short (2 ^ 64) high low b lows n h l) ∙ by_halves

-- GCM's word and b more reach 2^32
pub gcm_left : (low b : ℕ) → low < 2 ^ 32 → ltb (2 ^ 32 - 1 - low) b ≡ gcm_came_round low b
unfolding gcm_came_round
gcm_left low b h = left_tells (2 ^ 32) low b h
