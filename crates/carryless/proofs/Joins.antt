-- The three products of `karatsuba`, put together in words.
use Rattle.block.proofs.Base.{◌%◌, ◌*◌, ◌+◌, ◌/◌, ◌<◌, ◌^◌, ℕ, ◌∙◌, ◌≡◌, ap₂, sym, add-mul, add-zero, lt_trans, mod-lt}
use Rattle.block.proofs.Base.{mul_assoc, zero-add, digits_lt, xor_block, xor_shifted, xor_zero_r, lit<, high, low, pow-add, pow_pos}
use Rattle.block.proofs.Base.{shl_lt, shl-shr, shr-shr, split}
use Rattle.block.specs.Wide.{whole}
use Rattle.block.specs.Xor.{◌⊕◌}
use Rattle.block.proofs.Xor.{xor-sums, xor_wide}
use Rattle.carryless.specs.Carryless.{clmul, joining, joining128}
use Rattle.carryless.proofs.Laws.{clmul-lt, karatsuba, square_halves}

-- a shift to the left in two words
pub spill : (j k z : ℕ) → z / 2 ^ j * 2 ^ (k + j) + z * 2 ^ k % 2 ^ (k + j) ≡ z * 2 ^ k
spill j k z =
    let e : z * 2 ^ k / 2 ^ (k + j) ≡ z / 2 ^ j = rw (← shr-shr (z * 2 ^ k) k j, shl-shr z k) in rw e at (split (z * 2 ^ k) (k + j))

join : (k h m l : ℕ) → l < 2 ^ (k + k)
    → (h ⊕ m / 2 ^ k) * 2 ^ (k + k) + (l ⊕ m * 2 ^ k % 2 ^ (k + k)) ≡ h * 2 ^ k * 2 ^ k ⊕ m * 2 ^ k ⊕ l
join k h m l hl =
    rw (← xor_block (k + k) h (m / 2 ^ k) l (m * 2 ^ k % 2 ^ (k + k)) hl (mod-lt (m * 2 ^ k) (pow_pos (k + k))), spill k k m)
    (rw (← xor_shifted h (k + k) l hl, pow-add 2 k k, mul_assoc h (2 ^ k) (2 ^ k)) (simp xor-sums))

-- numbers of 64 bits
module _ (x y h l b : ℕ)
    (eh : h ≡ clmul 32 (x / 2 ^ 32) (y / 2 ^ 32)) (el : l ≡ clmul 32 (x % 2 ^ 32) (y % 2 ^ 32))
    (eb : b ≡ clmul 32 (x % 2 ^ 32 ⊕ x / 2 ^ 32) (y % 2 ^ 32 ⊕ y / 2 ^ 32)) where
  low-lt : l < 2 ^ 64
  low-lt = rw el (lt_trans (clmul-lt 31 32 (x % 2 ^ 32) (y % 2 ^ 32) (mod-lt y (pow_pos 32))) (lit< tt))

  pub join_64 : joining h l b ≡ clmul 64 x y
  join_64 =
      join 32 h (b ⊕ l ⊕ h) l low-lt
      ∙ (cc)
      ∙ sym (karatsuba 32 (x / 2 ^ 32) (x % 2 ^ 32) (y / 2 ^ 32) (y % 2 ^ 32) (mod-lt x (pow_pos 32)) (mod-lt y (pow_pos 32)))
      ∙ ap₂ (clmul 64) (split x 32) (split y 32)

-- numbers of 128 bits
module _ (h1 h0 m1 m0 l1 l0 : ℕ) (p : h0 < 2 ^ 64) (q : m1 < 2 ^ 64) (r : m0 < 2 ^ 64) (s : l1 < 2 ^ 64) (t : l0 < 2 ^ 64) where
  upper : whole h1 (h0 ⊕ m1) ≡ whole h1 h0 ⊕ whole m1 m0 / 2 ^ 64
  upper = rw (high m1 64 r) (simp (xor_zero_r, zero-add) at (xor_wide h1 h0 0 m1 p q))

  lower : whole (l1 ⊕ m0) l0 ≡ whole l1 l0 ⊕ whole m1 m0 * 2 ^ 64 % 2 ^ 128
  lower =
      rw (add-mul (m1 * 2 ^ 64) m0 (2 ^ 64), mul_assoc m1 (2 ^ 64) (2 ^ 64), low m1 128 (shl_lt 64 64 r))
      (simp (xor_zero_r, add-zero) at (xor_wide l1 l0 m0 0 t (lit< tt)))

  pub join-sums : (b g : ℕ) → g ≡ b ⊕ whole l1 l0 → whole m1 m0 ≡ g ⊕ whole h1 h0
      → whole h1 (h0 ⊕ m1) * 2 ^ 128 + whole (l1 ⊕ m0) l0 ≡ joining128 (whole h1 h0) (whole l1 l0) b
  join-sums b g eg em =
      ap₂ (λ (u v : ℕ). u * 2 ^ 128 + v) upper lower
      ∙ join 64 (whole h1 h0) (whole m1 m0) (whole l1 l0) (digits_lt {m = 2 ^ 64} {c = 2 ^ 64} s t)
      ∙ rw (em, eg)

pub join_128 : (h l b x1 x0 y1 y0 : ℕ) → x0 < 2 ^ 64 → y0 < 2 ^ 64
    → h ≡ clmul 64 x1 y1 → l ≡ clmul 64 x0 y0 → b ≡ clmul 64 (x0 ⊕ x1) (y0 ⊕ y1)
    → joining128 h l b ≡ clmul 128 (whole x1 x0) (whole y1 y0)
join_128 h l b x1 x0 y1 y0 hx hy eh el eb =
    rw (eh, el, eb) (sym (karatsuba 64 x1 x0 y1 y0 hx hy))

-- squares, word by word
pub square_words : (h l w3 w2 w1 w0 : ℕ) → h < 2 ^ 64 → l < 2 ^ 64
    → w3 ≡ clmul 32 (h / 2 ^ 32) (h / 2 ^ 32) → w2 ≡ clmul 32 (h % 2 ^ 32) (h % 2 ^ 32)
    → w1 ≡ clmul 32 (l / 2 ^ 32) (l / 2 ^ 32) → w0 ≡ clmul 32 (l % 2 ^ 32) (l % 2 ^ 32)
    → whole w3 w2 * 2 ^ 128 + whole w1 w0 ≡ clmul 128 (whole h l) (whole h l)
square_words h l w3 w2 w1 w0 hh hl e3 e2 e1 e0 =
    let small : (x w : ℕ) → w ≡ clmul 32 (x % 2 ^ 32) (x % 2 ^ 32) → w < 2 ^ 64 =
    λ x w e. rw e (lt_trans (clmul-lt 31 32 (x % 2 ^ 32) (x % 2 ^ 32) (mod-lt x (pow_pos 32))) (lit< tt)) in
    let high_is : whole w3 w2 ≡ clmul 64 h h = square_halves 32 h w3 w2 hh (small h w2 e2) e3 e2 in
    let low-is : whole w1 w0 ≡ clmul 64 l l = square_halves 32 l w1 w0 hl (small l w0 e0) e1 e0 in
    square_halves 64 (whole h l) (whole w3 w2) (whole w1 w0) (digits_lt {m = 2 ^ 64} {c = 2 ^ 64} hh hl)
    (rw low-is (lt_trans (clmul-lt 63 64 l l hl) (lit< tt))) (rw (high h 64 hl) high_is) (rw (low h 64 hl) low-is)
