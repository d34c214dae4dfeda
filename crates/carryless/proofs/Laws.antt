-- Laws of products without carry: they distribute over exclusive or on both sides, the factors may change places, a factor's shift goes to
-- the product, and the bits of the first factor may be taken in parts, so that a product of two halves each is made of three products of
-- halves (`karatsuba`), and a square of the two squares of the halves (`square_halves`).
use Rattle.block.proofs.Base.{◌%◌, ◌*◌, ◌+◌, ◌/◌, ◌<◌, ◌^◌, ◌≤◌, suc, zero, ℕ, ◌∙◌, ◌≡◌, ap, ap₂, refl, sym, add_comm, add-suc, add-zero}
use Rattle.block.proofs.Base.{div-eq_of_lt, le_of_suc-le, le_refl, lt_trans, mod-eq_of_lt, mod-lt, mul_assoc, mul_comm, mul-mod_left}
use Rattle.block.proofs.Base.{mul-one, mul_right_comm, mul-zero, one-mul, zero-add, zero-div, zero-mul, one-add, arith, xor_block, xor_comm}
use Rattle.block.proofs.Base.{xor_lt, xor_shifted, xor_shr, xor_zero_l, xor_zero_r, lit<, high, low, mod-pow-add, pow-add, pow-lt, pow_pos}
use Rattle.block.proofs.Base.{shl_lt, shl-shr, shr_lt, shr-shr, split}
use Rattle.block.specs.Xor.{◌⊕◌}
use Rattle.block.proofs.Xor.{xor_assoc, xor_swap, xor-sums}
use Rattle.block.proofs.Bit.{bit_cases, times-xor, xor-times, bit-times-lt}
use Rattle.lanes.specs.Bits.{bit}
use Rattle.lanes.proofs.Bits.{bit-mod}
use Rattle.carryless.specs.Carryless.{clmul}

pub shl-xor : (k a b : ℕ) → (a ⊕ b) * 2 ^ k ≡ a * 2 ^ k ⊕ b * 2 ^ k
shl-xor k a b = sym (simp add-zero at (xor_block k a b 0 0 (pow_pos k) (pow_pos k)))

pub zero-clmul : (n y : ℕ) → clmul n 0 y ≡ 0
unfolding clmul
zero-clmul zero y = refl
zero-clmul (suc n) y = rw (zero-clmul n y, zero-div (2 ^ n), zero-mul)

pub clmul-xor : (n x a b : ℕ) → clmul n x (a ⊕ b) ≡ clmul n x a ⊕ clmul n x b
unfolding clmul
clmul-xor zero x a b = refl
clmul-xor (suc n) x a b = rw (clmul-xor n x a b, shl-xor n a b, times-xor) (xor_swap (clmul n x a) (clmul n x b) _ _)

pub xor-clmul : (n a b y : ℕ) → clmul n (a ⊕ b) y ≡ clmul n a y ⊕ clmul n b y
unfolding clmul
xor-clmul zero a b y = refl
xor-clmul (suc n) a b y = rw (xor-clmul n a b y, xor_shr a b n, xor-times) (xor_swap (clmul n a y) (clmul n b y) _ _)

-- shifts of the second factor
pub clmul-up : (n j x y : ℕ) → clmul n x (y * 2 ^ j) ≡ clmul n x y * 2 ^ j
unfolding clmul
clmul-up zero j x y = sym (zero-mul (2 ^ j))
clmul-up (suc n) j x y =
    rw (clmul-up n j x y, mul_right_comm y (2 ^ j) (2 ^ n), shl-xor, mul_assoc (x / 2 ^ n % 2) (y * 2 ^ n) (2 ^ j))

-- the bits of the first factor in two parts
pub clmul-split : (a n x y : ℕ) → clmul (a + n) x y ≡ clmul a x y ⊕ clmul n (x / 2 ^ a) y * 2 ^ a
unfolding clmul
clmul-split a zero x y = rw (add-zero a, zero-mul, xor_zero_r)
clmul-split a (suc n) x y =
    let e : y * 2 ^ (a + n) ≡ y * 2 ^ n * 2 ^ a = rw (pow-add 2 a n, mul_comm (2 ^ a) (2 ^ n)) (sym (mul_assoc y (2 ^ n) (2 ^ a))) in
    rw (add-suc a n, clmul-split a n x y, ← shr-shr x a n, e, shl-xor, xor_assoc, mul_assoc (x / 2 ^ a / 2 ^ n % 2) (y * 2 ^ n) (2 ^ a))

-- bits of the first factor past those that are taken do not count
pub clmul-mod : (n k x y : ℕ) → n ≤ k → clmul n (x % 2 ^ k) y ≡ clmul n x y
unfolding clmul bit
clmul-mod zero k x y h = refl
clmul-mod (suc n) k x y h = ap₂ (λ (v b : ℕ). v ⊕ b * (y * 2 ^ n)) (clmul-mod n k x y (le_of_suc-le h)) (bit-mod k n x h)

-- nor do more bits than it has
clmul_more : (n i x y : ℕ) → x < 2 ^ n → clmul (n + i) x y ≡ clmul n x y
clmul_more n i x y h = rw (clmul-split n i x y, div-eq_of_lt h, zero-clmul i y, zero-mul, xor_zero_r)

-- shifts of the first factor
pub up-clmul : (n i x y : ℕ) → x * 2 ^ i < 2 ^ n → clmul n (x * 2 ^ i) y ≡ clmul n x y * 2 ^ i
up-clmul n i x y h =
    sym (clmul_more n i (x * 2 ^ i) y h)
    ∙ rw (add_comm n i, clmul-split i n (x * 2 ^ i) y, shl-shr x i, ← clmul-mod i i (x * 2 ^ i) y (le_refl i), mul-mod_left, zero-clmul i y)

-- 1 is the one
pub one-clmul : (n y : ℕ) → clmul (suc n) 1 y ≡ y
one-clmul n y = rw (← one-add n, clmul_more 1 n 1 y (lit< tt)) (unfold clmul in one-mul (y * 2 ^ 0) ∙ mul-one y)

-- the size of a product
pub clmul-lt : (n m x y : ℕ) → y < 2 ^ m → clmul (suc n) x y < 2 ^ (n + m)
unfolding clmul
clmul-lt zero m x y h =
    rw (zero-add m) (xor_lt m 0 (x / 2 ^ 0 % 2 * (y * 2 ^ 0)) (pow_pos m) (bit-times-lt (x / 2 ^ 0) (y * 2 ^ 0) (2 ^ m) (rw (mul-one y) h)))
clmul-lt (suc n) m x y h =
    let e : m + suc n ≡ suc n + m = add_comm m (suc n) in
    let l : n + m < suc n + m = omega arith in
    xor_lt (suc n + m) (clmul (suc n) x y) (x / 2 ^ suc n % 2 * (y * 2 ^ suc n)) (lt_trans (clmul-lt n m x y h) (pow-lt l))
    (bit-times-lt (x / 2 ^ suc n) (y * 2 ^ suc n) (2 ^ (suc n + m)) (rw e at (shl_lt m (suc n) h)))

-- the factors in the other order
clmul-zero : (n x : ℕ) → clmul n x 0 ≡ 0
unfolding clmul
clmul-zero zero x = refl
clmul-zero (suc n) x = rw (clmul-zero n x, zero-mul (2 ^ n), mul-zero)

low_bits : (n x : ℕ) → x / 2 ^ n % 2 * 2 ^ n ⊕ x % 2 ^ n ≡ x % 2 ^ suc n
low_bits n x = rw (xor_shifted (x / 2 ^ n % 2) n (x % 2 ^ n) (mod-lt x (pow_pos n)), ← one-add n) (sym (mod-pow-add x 1 n))

clmul-one : (n y : ℕ) → clmul n y 1 ≡ y % 2 ^ n
unfolding clmul
clmul-one zero y = omega arith
clmul-one (suc n) y = rw (clmul-one n y, one-mul (2 ^ n), xor_comm (y % 2 ^ n)) (low_bits n y)

clmul-bit : (n y x : ℕ) → y < 2 ^ n → clmul n y (x % 2) ≡ x % 2 * y
clmul-bit n y x h =
    bit_cases (λ v. clmul n y v ≡ v * y) (clmul-zero n y ∙ sym (zero-mul y)) (clmul-one n y ∙ mod-eq_of_lt h ∙ sym (one-mul y)) x

clmul_turn : (n k x y : ℕ) → y < 2 ^ k → clmul n x y ≡ clmul k y (x % 2 ^ n)
unfolding clmul
clmul_turn zero k x y h = let z : x % 2 ^ 0 ≡ 0 = omega arith in sym (ap (clmul k y) z ∙ clmul-zero k y)
clmul_turn (suc n) k x y h =
    let b = x / 2 ^ n % 2 in
    let e : clmul k y (b * 2 ^ n) ≡ b * (y * 2 ^ n) = rw (clmul-up k n y b, clmul-bit k y (x / 2 ^ n) h) (mul_assoc b y (2 ^ n)) in
    rw (clmul_turn n k x y h, ← e, ← low_bits n x, clmul-xor k y (b * 2 ^ n) (x % 2 ^ n)) (simp xor-sums)

clmul_comm : (n x y : ℕ) → x < 2 ^ n → y < 2 ^ n → clmul n x y ≡ clmul n y x
clmul_comm n x y hx hy = clmul_turn n n x y hy ∙ ap (clmul n y) (mod-eq_of_lt hx)

-- squares: what two different terms make comes twice, and cancels
pub square_xor : (n a b : ℕ) → a < 2 ^ n → b < 2 ^ n → clmul n (a ⊕ b) (a ⊕ b) ≡ clmul n a a ⊕ clmul n b b
square_xor n a b ha hb = rw (xor-clmul n a b (a ⊕ b), clmul-xor n a a b, clmul-xor n b a b, clmul_comm n a b ha hb) (simp xor-sums)

-- a product of two halves each from three products of halves
module _ (k a b c d : ℕ) (hb : b < 2 ^ k) (hd : d < 2 ^ k) where
  row : (x : ℕ) → clmul k x (c * 2 ^ k + d) ≡ clmul k x c * 2 ^ k ⊕ clmul k x d
  row x = rw (← xor_shifted c k d hd, clmul-xor, clmul-up)

  low_part : clmul k (a * 2 ^ k + b) (c * 2 ^ k + d) ≡ clmul k b (c * 2 ^ k + d)
  low_part = rw (← clmul-mod k k (a * 2 ^ k + b) (c * 2 ^ k + d) (le_refl k), low a k hb)

  pub karatsuba : clmul (k + k) (a * 2 ^ k + b) (c * 2 ^ k + d)
      ≡ clmul k a c * 2 ^ k * 2 ^ k ⊕ (clmul k (b ⊕ a) (d ⊕ c) ⊕ clmul k b d ⊕ clmul k a c) * 2 ^ k ⊕ clmul k b d
  karatsuba =
      rw (clmul-split k k (a * 2 ^ k + b) (c * 2 ^ k + d), low_part, high a k hb, row a, row b)
      (simp (clmul-xor, xor-clmul, shl-xor, xor-sums))

-- a square of two halves is the squares of the halves
module _ (k x P Q : ℕ) (h : x < 2 ^ (k + k)) (l : Q < 2 ^ (k + k))
    (eP : P ≡ clmul k (x / 2 ^ k) (x / 2 ^ k)) (eQ : Q ≡ clmul k (x % 2 ^ k) (x % 2 ^ k)) where
  pub square_halves : P * 2 ^ (k + k) + Q ≡ clmul (k + k) x x
  square_halves =
      let a = x / 2 ^ k in
      let b = x % 2 ^ k in
      let hb : b < 2 ^ k = mod-lt x (pow_pos k) in
      let e : clmul (k + k) x x ≡ clmul k a a * 2 ^ k * 2 ^ k ⊕ clmul k b b =
      ap₂ (clmul (k + k)) (sym (split x k)) (sym (split x k))
      ∙ karatsuba k a b a b hb hb
      ∙ rw (square_xor k b a hb (shr_lt k k h)) (simp (zero-mul, xor_zero_l, xor-sums)) in
      rw (← xor_shifted P (k + k) Q l, e, eP, eQ, pow-add 2 k k, mul_assoc)
