-- A piece's size: the workers' pieces hold all the bytes, each is whole blocks, none is empty unless all are, and none is too long
-- for its place to be reckoned.
use Rattle.ranges.proofs.Names.{◌%◌, ◌*◌, ◌+◌, ◌-◌, ◌/◌, ◌≡◌, ◌≤◌, arith, blocks_of, by_order, div-add-mod, div-le_self, limit}
use Rattle.std.proofs.lemmas.Grind.{div_ceil_times}
use Rattle.ranges.proofs.Names.{min, mod-lt, mul-le-mul_right, mul_left_comm, mul-mod_right, piece_size, ℕ}

-- the library's division that rounds up is the definition's
pub rounded_up : (m w : ℕ) → 1 ≤ w → m / w + min 1 (m % w) ≡ (m + (w - 1)) / w
rounded_up m w h =
    let q = m / w + min 1 (m % w) in
    let p = (m + (w - 1)) / w in
    let bounds = div_ceil_times m w h in
    let all = div-add-mod (m + (w - 1)) w in
    let left = mod-lt (m + (w - 1)) {m = w} h in
    by_order q p (λ e. let more : q + 1 ≤ p = omega arith in absurd (omega (arith, bounds, all, mul-le-mul_right w more)))
    (λ e.
    by_order p q (λ f. let more : p + 1 ≤ q = omega arith in absurd (omega (arith, bounds, all, left, mul-le-mul_right w more)))
    (λ f. omega arith))

module _ (n w : ℕ) where
  abbrev share : ℕ
  share = (blocks_of n + (w - 1)) / w

  pub short_enough : n ≤ limit → w ≤ 64 → piece_size n w ≤ 2 * limit
  unfolding piece_size
  short_enough h g = let s = div-le_self (blocks_of n + (w - 1)) w in omega (arith, s)

  pub whole-blocks : piece_size n w % 16 ≡ 0
  unfolding piece_size
  whole-blocks = mul-mod_right 16 share

  pub hold_all : 1 ≤ w → n ≤ w * piece_size n w
  unfolding piece_size
  hold_all h =
      let all = div-add-mod (blocks_of n + (w - 1)) w in
      let left = mod-lt (blocks_of n + (w - 1)) {m = w} h in
      let same = mul_left_comm w 16 share in
      omega (arith, all, left, same)

  pub none-empty : 1 ≤ w → 1 ≤ n → 1 ≤ piece_size n w
  none-empty h g =
      by_order 0 (piece_size n w) (λ e. e) (λ e. let z : piece_size n w ≡ 0 = omega arith in absurd (omega (arith, rw z at (hold_all h))))
