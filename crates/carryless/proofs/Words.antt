-- Numbers of 32 bits as four parts of every fourth bit each: the sixteen products of the parts, summed up by their places, are the product
-- without carry (`by_quarters`); of a square four of them are enough (`squares`).
use Rattle.block.proofs.Base.{◌%◌, ◌*◌, ◌+◌, ◌/◌, ◌<◌, ◌^◌, ◌≤◌, min, suc, zero, ℕ, ◌∙◌, ◌≡◌, ap, ap₂, refl, sym, ⊎_elim, [], ◌∷◌}
use Rattle.block.proofs.Base.{add-zero, lt_of_le_of_lt, mod-eq_of_lt, mod-lt, mul_assoc, mul-mul-mul_comm, pow-suc}
use Rattle.block.proofs.Base.{arith, and_block, and_comm, and_le_l, and_mask, and_zero_r, bit_and, differ, xor_lt, T, ltb, lit<}
use Rattle.block.proofs.Base.{pow-add, pow_pos, shl-shr, split}
use Rattle.block.specs.Xor.{◌⊕◌}
use Rattle.block.proofs.Xor.{xor-sums}
use Rattle.lanes.proofs.Bits.{bit-and, bit_ext, bit-small, bit-xor, three-bits, lt-or-le}
use Rattle.lanes.specs.Bits.{bit}
use Rattle.carryless.specs.Carryless.{clmul}
use Rattle.carryless.specs.Lent.{quarters}
use Rattle.carryless.proofs.Laws.{clmul-xor, xor-clmul, clmul-up, up-clmul, square_xor}
use Rattle.carryless.proofs.Holes.{ones, Few, few_pick, pick_more, pick_up, hole_product}

below-pow : (n : ℕ) → n < 2 ^ n
below-pow zero = lit< tt
below-pow (suc n) = let h = below-pow n in rw (pow-suc 2 n) (omega arith)

-- `&` over exclusive or
and_xor : (c a b : ℕ) → bit_and c (a ⊕ b) ≡ bit_and c a ⊕ bit_and c b
and_xor c a b =
    let s : (x : ℕ) → bit_and c x < 2 ^ c = λ x. lt_of_le_of_lt (and_le_l c x) (below-pow c) in
    bit_ext c (bit_and c (a ⊕ b)) (bit_and c a ⊕ bit_and c b) (s (a ⊕ b)) (xor_lt c (bit_and c a) (bit_and c b) (s a) (s b))
    (λ i g. simp (bit-and, bit-xor) (three-bits (λ x y z. min x (differ y z) ≡ differ (min x y) (min x z))
    refl refl refl refl refl refl refl refl (bit i c) (bit i a) (bit i b) (bit-small i c) (bit-small i a) (bit-small i b)))

xor-and : (c a b : ℕ) → bit_and (a ⊕ b) c ≡ bit_and a c ⊕ bit_and b c
xor-and c a b = and_comm (a ⊕ b) c ∙ and_xor c a b ∙ ap₂ ◌⊕◌ (and_comm c a) (and_comm c b)

-- a mask that is shifted
and-shl : (i x h : ℕ) → bit_and x (h * 2 ^ i) ≡ bit_and (x / 2 ^ i) h * 2 ^ i
and-shl i x h = simp (add-zero, split, and_zero_r) at (and_block i (x / 2 ^ i) h (x % 2 ^ i) 0 (mod-lt x (pow_pos i)) (pow_pos i))

-- every fourth bit from bit i on, of 32 and of 64
abbrev some : ℕ → ℕ
some i = ones 3 8 * 2 ^ i

abbrev all : ℕ → ℕ
all i = ones 3 16 * 2 ^ i

abbrev part : ℕ → ℕ → ℕ
part x i = bit_and x (some i)

-- two parts' product has its bits where it should
module _ (X Y i j : ℕ) (hX : Few 3 1 8 X) (hY : Few 3 1 8 Y) (h : X * 2 ^ i < 2 ^ 32) where
  carryless : clmul 32 (X * 2 ^ i) (Y * 2 ^ j) ≡ clmul 32 X Y * 2 ^ (i + j)
  carryless = rw (clmul-up 32 j (X * 2 ^ i) Y, up-clmul 32 i X Y h, pow-add 2 i j) (mul_assoc (clmul 32 X Y) (2 ^ i) (2 ^ j))

  product : X * 2 ^ i * (Y * 2 ^ j) ≡ X * Y * 2 ^ (i + j)
  product = rw (mul-mul-mul_comm X (2 ^ i) Y (2 ^ j), pow-add 2 i j)

  below : bit_and (X * 2 ^ i * (Y * 2 ^ j)) (all (i + j)) ≡ clmul 32 (X * 2 ^ i) (Y * 2 ^ j)
  below =
      let p = hole_product 3 7 8 X Y (lit< tt) hX hY in
      rw (product, carryless, and-shl (i + j) (X * Y * 2 ^ (i + j)) (ones 3 16), shl-shr (X * Y) (i + j))
      (ap (λ (v : ℕ). v * 2 ^ (i + j)) (pick_more 3 8 15 (X * Y) p.few ∙ p.bits))

  past : (k : ℕ) → i + j ≡ 4 + k → bit_and (X * 2 ^ i * (Y * 2 ^ j)) (all k) ≡ clmul 32 (X * 2 ^ i) (Y * 2 ^ j)
  past k e =
      let p = hole_product 3 7 8 X Y (lit< tt) hX hY in
      let s : (v : ℕ) → v * 2 ^ (i + j) ≡ v * 2 ^ 4 * 2 ^ k = λ v. rw (e, pow-add 2 4 k) (sym (mul_assoc v (2 ^ 4) (2 ^ k))) in
      rw (product, carryless, s (X * Y), s (clmul 32 X Y), and-shl k (X * Y * 2 ^ 4 * 2 ^ k) (ones 3 16), shl-shr (X * Y * 2 ^ 4) k)
      (ap (λ (v : ℕ). v * 2 ^ k) (pick_up 3 15 (X * Y) ∙ ap (λ (v : ℕ). v * 2 ^ 4) p.bits))

-- the parts make up the number
whole_of : (x : ℕ) → x < 2 ^ 32 → part x 0 ⊕ part x 1 ⊕ part x 2 ⊕ part x 3 ≡ x
whole_of x h =
    rw (← and_xor x (some 0) (some 1), ← and_xor x (some 0 ⊕ some 1) (some 2), ← and_xor x (some 0 ⊕ some 1 ⊕ some 2) (some 3))
    (and_mask x 32 ∙ mod-eq_of_lt h)

module _ (x y : ℕ) (hx : x < 2 ^ 32) (hy : y < 2 ^ 32) where
  part-lt : (i : ℕ) → bit_and (x / 2 ^ i) (ones 3 8) * 2 ^ i < 2 ^ 32
  part-lt i = rw (and-shl i x (ones 3 8)) at (lt_of_le_of_lt (and_le_l x (some i)) hx)

  -- two parts meet where i + j says, or four places on
  meet : (i j : ℕ) → T (ltb (i + j) 8) → bit_and (part x i * part y j) (all ((i + j) % 4)) ≡ clmul 32 (part x i) (part y j)
  meet i j t =
      let h : i + j < 8 = lit< t in
      let f = few_pick 3 8 in
      rw (and-shl i x (ones 3 8), and-shl j y (ones 3 8))
      (⊎_elim
      (λ (g : i + j < 4). rw (mod-eq_of_lt g) (below _ _ i j (f (x / 2 ^ i)) (f (y / 2 ^ j)) (part-lt i)))
      (λ (g : 4 ≤ i + j). past _ _ i j (f (x / 2 ^ i)) (f (y / 2 ^ j)) (part-lt i) ((i + j) % 4) (omega arith)) (lt-or-le (i + j) 4))

  -- products whose bits have the same places, summed up
  pub by_quarters : (p q r s : ℕ) → p ∷ q ∷ r ∷ s ∷ [] ≡ quarters y → (z0 z1 z2 z3 : ℕ)
      → z0 ≡ part x 0 * p ⊕ part x 1 * s ⊕ part x 2 * r ⊕ part x 3 * q
      → z1 ≡ part x 0 * q ⊕ part x 1 * p ⊕ part x 2 * s ⊕ part x 3 * r
      → z2 ≡ part x 0 * r ⊕ part x 1 * q ⊕ part x 2 * p ⊕ part x 3 * s
      → z3 ≡ part x 0 * s ⊕ part x 1 * r ⊕ part x 2 * q ⊕ part x 3 * p
      → bit_and z0 (all 0) ⊕ bit_and z1 (all 1) ⊕ bit_and z2 (all 2) ⊕ bit_and z3 (all 3) ≡ clmul 32 x y
  by_quarters p q r s l z0 z1 z2 z3 e0 e1 e2 e3 =
      let first : p ≡ part y 0 = cc in
      let second : q ≡ part y 1 = cc in
      let third : r ≡ part y 2 = cc in
      let fourth : s ≡ part y 3 = cc in
      rw (e0, e1, e2, e3, first, second, third, fourth)
      (simp (xor-and, meet 0 0 tt, meet 1 3 tt, meet 2 2 tt, meet 3 1 tt, meet 0 1 tt, meet 1 0 tt, meet 2 3 tt, meet 3 2 tt)
      (simp (meet 0 2 tt, meet 1 1 tt, meet 2 0 tt, meet 3 3 tt, meet 0 3 tt, meet 1 2 tt, meet 2 1 tt, meet 3 0 tt, xor-sums)
      (simp (xor-clmul, clmul-xor, xor-sums) at (ap₂ (clmul 32) (whole_of x hx) (whole_of y hy)))))

-- the square of a sum of parts is the sum of their squares
pub squares : (x : ℕ) → x < 2 ^ 32
    → bit_and (part x 0 * part x 0 ⊕ part x 2 * part x 2) (all 0) ⊕ bit_and (part x 1 * part x 1 ⊕ part x 3 * part x 3) (all 2) ≡ clmul 32 x x
squares x h =
    let l : (i : ℕ) → part x i < 2 ^ 32 = λ i. lt_of_le_of_lt (and_le_l x (some i)) h in
    let ab = xor_lt 32 (part x 0) (part x 1) (l 0) (l 1) in
    let s : clmul 32 (part x 0 ⊕ part x 1 ⊕ part x 2 ⊕ part x 3) (part x 0 ⊕ part x 1 ⊕ part x 2 ⊕ part x 3)
    ≡ clmul 32 (part x 0) (part x 0) ⊕ clmul 32 (part x 1) (part x 1) ⊕ clmul 32 (part x 2) (part x 2) ⊕ clmul 32 (part x 3) (part x 3) =
    rw (square_xor 32 (part x 0 ⊕ part x 1 ⊕ part x 2) (part x 3) (xor_lt 32 _ _ ab (l 2)) (l 3))
    (rw (square_xor 32 (part x 0 ⊕ part x 1) (part x 2) ab (l 2), square_xor 32 (part x 0) (part x 1) (l 0) (l 1))) in
    simp (xor-and, meet x x h h 0 0 tt, meet x x h h 2 2 tt, meet x x h h 1 1 tt, meet x x h h 3 3 tt)
    (simp xor-sums (simp xor-sums at (sym s ∙ ap (λ (v : ℕ). clmul 32 v v) (whole_of x h))))
