-- Integer products of numbers with holes: of numbers whose digits to the base 2 ^ (w + 1) are 0 or 1. A digit of such a product is the
-- number of the pairs of ones that meet there. Where that is below the base nothing is carried, and the digits' lowest bits are the
-- product without carry (`hole_product`).
use Rattle.block.proofs.Base.{◌%◌, ◌*◌, ◌+◌, ◌/◌, ◌<◌, ◌^◌, ◌≤◌, suc, suc-le-suc, zero, zero-le, ℕ, ◌∙◌, ◌≡◌, ap, ap₂, refl, sym, add_comm}
use Rattle.block.proofs.Base.{add-le-add, add-mod, add-mul, add-zero, div-add-mod', le_of_suc-le-suc, le_refl, lt_of_le_of_lt}
use Rattle.block.proofs.Base.{lt_of_lt_of_le, lt-suc_self, lt_trans, mod-eq_of_lt, mod-lt, mul-div_cancel, mul-mod_left, mul_right_comm}
use Rattle.block.proofs.Base.{one-mul, pow-le-pow_right, suc-add, zero-add, zero-div, zero-mod, zero-mul, add-one, one-add, arith}
use Rattle.block.proofs.Base.{digits_div, digits_mod, and_block, and_mask, and_zero_r, bit_and, shifted_even, xor_block, lit<, mod-mod-pow}
use Rattle.block.proofs.Base.{pow_pos, split, subst}
use lib.Bits.{xor_add_and, xor_mod}
use Rattle.block.specs.Xor.{◌⊕◌}
use Rattle.block.proofs.Xor.{bit-lt}
use Rattle.block.proofs.Bit.{bit_cases}
use Rattle.carryless.specs.Carryless.{clmul}
use Rattle.carryless.proofs.Laws.{clmul-split, clmul-mod, zero-clmul, one-clmul}

-- the digits of a sum where nothing is carried
module _ (B u v : ℕ) (h : u % B + v % B < B) where
  sum-div : (u + v) / B ≡ u / B + v / B
  sum-div =
      let a = div-add-mod' u B in
      let b = div-add-mod' v B in
      let e : u + v ≡ (u / B + v / B) * B + (u % B + v % B) = omega arith in
      rw e (digits_div (u / B + v / B) h)

  sum-mod : (u + v) % B ≡ u % B + v % B
  sum-mod = add-mod u v B ∙ mod-eq_of_lt h

odd_sum : (u v : ℕ) → (u + v) % 2 ≡ u % 2 ⊕ v % 2
odd_sum u v = let e = xor_add_and u v in let f : (u + v) % 2 ≡ (u ⊕ v) % 2 = omega arith in f ∙ xor_mod u v 1

module _ (w : ℕ) where
  abbrev base : ℕ
  base = 2 ^ suc w

  -- a one in each of n digits
  abbrev pub ones : ℕ → ℕ
  ones zero = 0
  ones (suc n) = ones n * base + 1

  -- n digits, each at most m
  abbrev pub Few : ℕ → ℕ → ℕ → Type 0
  Few m zero z = z ≡ 0
  Few m (suc n) z = (z % base ≤ m) × Few m n (z / base)

  bit_base : (z : ℕ) → z % 2 < base
  bit_base z = lt_of_lt_of_le (bit-lt z) (pow-le-pow_right (lit< tt) (suc-le-suc zero-le))

  -- the lowest bits of n digits
  pick_step : (n z : ℕ) → bit_and z (ones (suc n)) ≡ bit_and (z / base) (ones n) * base + z % 2
  pick_step n z =
      ap (λ (x : ℕ). bit_and x (ones n * base + 1)) (sym (split z (suc w)))
      ∙ and_block (suc w) (z / base) (ones n) (z % base) 1 (mod-lt z (pow_pos (suc w))) (bit_base 1)
      ∙ ap (λ (x : ℕ). bit_and (z / base) (ones n) * base + x)
      (and_mask (z % base) 1 ∙ ap (λ (x : ℕ). z % 2 ^ x % 2) (sym (add-one w)) ∙ mod-mod-pow z w 1)

  -- sums of digits, and their lowest bits
  sums : (p q : ℕ) → p + q < base → (n u v : ℕ) → Few p n u → Few q n v
      → Few (p + q) n (u + v) × (bit_and (u + v) (ones n) ≡ bit_and u (ones n) ⊕ bit_and v (ones n))
  sums p q h zero u v a b = (ap₂ ◌+◌ a b, and_zero_r (u + v) ∙ sym (ap₂ ◌⊕◌ (and_zero_r u) (and_zero_r v)))
  sums p q h (suc n) u v a b =
      let l : u % base + v % base < base = lt_of_le_of_lt (add-le-add a.0 b.0) h in
      let r = sums p q h n (u / base) (v / base) a.1 b.1 in (
        (rw (sum-mod base u v l) (add-le-add a.0 b.0), rw (sum-div base u v l) r.0),
        rw (pick_step n (u + v), pick_step n u, pick_step n v, odd_sum u v, sum-div base u v l, r.1)
            (sym (xor_block (suc w) _ _ (u % 2) (v % 2) (bit_base u) (bit_base v))),
      )

  few-zero : (m n : ℕ) → Few m n 0
  few-zero m zero = refl
  few-zero m (suc n) = (rw (zero-mod base) zero-le, rw (zero-div base) (few-zero m n))

  few_more : (m n : ℕ) → (z : ℕ) → Few m n z → Few m (suc n) z
  few_more m zero z h = rw h (few-zero m 1)
  few_more m (suc n) z h = (h.0, few_more m n (z / base) h.1)

  few-plus : (m n k z : ℕ) → Few m n z → Few m (k + n) z
  few-plus m n zero z h = rw (zero-add n) h
  few-plus m n (suc k) z h = rw (suc-add k n) (few_more m (k + n) z (few-plus m n k z h))

  few-bit : (m n a z : ℕ) → Few m n z → Few m n (a % 2 * z)
  few-bit m n a z h = bit_cases (λ x. Few m n (x * z)) (rw (zero-mul z) (few-zero m n)) (rw (one-mul z) h) a

  few-up : (m n z : ℕ) → Few m n z → Few m (suc n) (z * base)
  few-up m n z h = (rw (mul-mod_left z base) zero-le, rw (mul-div_cancel z (pow_pos (suc w))) h)

  -- a digit that is at most 1 is its lowest bit
  small-digit : (z : ℕ) → z % base ≤ 1 → z % base ≡ z % 2
  small-digit z h =
      sym (mod-eq_of_lt (suc-le-suc h)) ∙ ap (λ (x : ℕ). z % 2 ^ x % 2) (sym (add-one w)) ∙ mod-mod-pow z w 1

  by_digits : (z : ℕ) → z % base ≤ 1 → z ≡ z / base * base + z % 2
  by_digits z h = sym (split z (suc w)) ∙ ap (λ (x : ℕ). z / base * base + x) (small-digit z h)

  -- the lowest bits of digits that are 0 or 1
  pick_whole : (n z : ℕ) → Few 1 n z → bit_and z (ones n) ≡ z
  pick_whole zero z h = and_zero_r z ∙ sym h
  pick_whole (suc n) z h =
      pick_step n z ∙ ap (λ (x : ℕ). x * base + z % 2) (pick_whole n (z / base) h.1) ∙ sym (by_digits z h.0)

  pub few_pick : (n z : ℕ) → Few 1 n (bit_and z (ones n))
  few_pick zero z = and_zero_r z
  few_pick (suc n) z =
      let y = bit_and (z / base) (ones n) in (
        rw (pick_step n z, digits_mod y (bit_base z)) (le_of_suc-le-suc (bit-lt z)),
        rw (pick_step n z, digits_div y (bit_base z)) (few_pick n (z / base)),
      )

  pub pick_up : (n z : ℕ) → bit_and (z * base) (ones (suc n)) ≡ bit_and z (ones n) * base
  pick_up n z =
      rw (pick_step n (z * base), mul-div_cancel z (pow_pos (suc w)), shifted_even z w) (add-zero _)

  -- nothing stands past the last digit
  pub pick_more : (m n z : ℕ) → Few m n z → bit_and z (ones (suc n)) ≡ bit_and z (ones n)
  pick_more m zero z h = ap (λ (x : ℕ). bit_and x (ones 1)) h ∙ sym (and_zero_r z)
  pick_more m (suc n) z h =
      pick_step (suc n) z ∙ ap (λ (x : ℕ). x * base + z % 2) (pick_more m n (z / base) h.1) ∙ sym (pick_step n z)

  -- the bits of k + 1 digits
  abbrev pub span : ℕ → ℕ
  span zero = suc w
  span (suc k) = suc w + span k

  -- the product without carry, a digit of the first factor at a time
  digit-product : (x y : ℕ) → x % base ≤ 1 → clmul (suc w) x y ≡ x % 2 * y
  digit-product x y h =
      rw (← clmul-mod (suc w) (suc w) x y (le_refl (suc w)), small-digit x h)
      (bit_cases (λ v. clmul (suc w) v y ≡ v * y) (zero-clmul (suc w) y ∙ sym (zero-mul y)) (one-clmul w y ∙ sym (one-mul y)) x)

  digits_product : (k x y : ℕ) → x % base ≤ 1 → clmul (suc w + k) x y ≡ x % 2 * y ⊕ clmul k (x / base) y * base
  digits_product k x y h = rw (clmul-split (suc w) k x y, digit-product x y h)

  -- one digit more of the first factor
  product-split : (x y : ℕ) → x % base ≤ 1 → x * y ≡ x % 2 * y + x / base * y * base
  product-split x y h =
      ap (λ (v : ℕ). v * y) (by_digits x h) ∙ rw (add-mul (x / base * base) (x % 2) y, mul_right_comm (x / base) base y) (add_comm _ _)

  pub record HoleProduct (k m x y : ℕ) : Type 0 where
    pub few : Few (suc k) (k + m) (x * y)
    pub bits : bit_and (x * y) (ones (k + m)) ≡ clmul (span k) x y

  pub hole_product : (k m x y : ℕ) → suc k < base → Few 1 (suc k) x → Few 1 m y → HoleProduct k m x y
  hole_product zero m x y l hx hy =
      let e : x * y ≡ x % 2 * y = product-split x y hx.0 ∙ rw (hx.1, zero-mul y, zero-mul base, add-zero) in
      let f = few-plus 1 m 0 (x % 2 * y) (few-bit 1 m x y hy) in
      record { few = rw e f; bits = rw e (pick_whole (0 + m) (x % 2 * y) f ∙ sym (digit-product x y hx.0)) }
  hole_product (suc k) m x y l hx hy =
      let X = x / base in
      let r = hole_product k m X y (lt_trans (lt-suc_self (suc k)) l) hx.1 hy in
      let e = product-split x y hx.0 in
      let f : Few 1 (suc (k + m)) (x % 2 * y) = few_more 1 (k + m) (x % 2 * y) (few-plus 1 m k (x % 2 * y) (few-bit 1 m x y hy)) in
      let g : Few (suc k) (suc (k + m)) (X * y * base) = few-up (suc k) (k + m) (X * y) r.few in
      let s = sums 1 (suc k) (rw (one-add (suc k)) l) (suc (k + m)) (x % 2 * y) (X * y * base) f g in
      record {
        few = rw (suc-add k m, e) (subst (λ (n : ℕ). Few n (suc (k + m)) (x % 2 * y + X * y * base)) (one-add (suc k)) s.0);
        bits =
            ap₂ (λ (v j : ℕ). bit_and v (ones j)) e (suc-add k m)
            ∙ s.1
            ∙ ap₂ ◌⊕◌ (pick_whole (suc (k + m)) (x % 2 * y) f) (pick_up (k + m) (X * y) ∙ ap (λ (v : ℕ). v * base) r.bits)
            ∙ sym (digits_product (span k) x y hx.0);
      }
