-- Where a number below a modulus comes round, as the code tests it: one more is 0, and a count is more than what is left.
use Rattle.block.proofs.Base.{◌%◌, ◌*◌, ◌+◌, ◌-◌, ◌<◌, ◌≤◌, ℕ, ◌∙◌, ◌≡◌, ap, sym, inl, inr, false, eq-or-lt_of_le, mod-eq_of_lt}
use Rattle.block.proofs.Base.{mod_self, mul-le-mul_right, arith, eq-eqb, eqb-true, le-leb, leb-true, lt-leb, lt-ltb, ltb-true}
use Rattle.block.proofs.Base.{ne_eqb, and_le_l, and_le_r, bit_or, or_add_and, eqb, leb, ltb}
use Rattle.block.specs.Wide.{whole}
use Rattle.block.proofs.Same.{test_iff}

-- one more is 0 exactly where it comes round
pub zero_tells : (m v r : ℕ) → v < m → r ≡ (v + 1) % m → eqb r 0 ≡ eqb (v + 1) m
zero_tells m v r h e =
    elim (eq-or-lt_of_le h) [
      | inl q ↦
          let round : v + 1 ≡ m = omega arith in
          eq-eqb r 0 (e ∙ ap (λ (x : ℕ). x % m) round ∙ mod_self m) ∙ sym (eq-eqb (v + 1) m round)
      | inr l ↦
          let below : v + 1 < m = omega arith in
          let more : r ≡ v + 1 = e ∙ mod-eq_of_lt below in
          ne_eqb r 0 (λ z. omega arith) ∙ sym (ne_eqb (v + 1) m (λ z. omega arith))
    ]

-- two halves have no bit exactly where their number is 0
pub no_bit : (high low : ℕ) → eqb (bit_or high low) 0 ≡ eqb (whole high low) 0
no_bit high low =
    test_iff (eqb (bit_or high low) 0) (eqb (whole high low) 0)
    (λ t.
    let none = eqb-true (bit_or high low) 0 t in
    let z : (high ≡ 0) × (low ≡ 0) = omega (arith, or_add_and high low, and_le_l high low, and_le_r high low) in
    rw (z.0, z.1))
    (λ t. let none = eqb-true (whole high low) 0 t in let z : (high ≡ 0) × (low ≡ 0) = omega arith in rw (z.0, z.1))

-- k more than low reach m exactly where k is more than what is left below m
pub left_tells : (m low k : ℕ) → low < m → ltb (m - 1 - low) k ≡ leb m (low + k)
left_tells m low k h =
    test_iff (ltb (m - 1 - low) k) (leb m (low + k))
    (λ t. le-leb m (low + k) (omega (arith, ltb-true (m - 1 - low) k t)))
    (λ t. lt-ltb (m - 1 - low) k (omega (arith, leb-true m (low + k) t)))

-- the same over two halves, for all blocks but one: the high half is as large as it can be, or it leaves more than any count
module _ (base high low b : ℕ) (lows : low < base) where
  pub high_full : high ≡ base - 1 → ltb (base - 1 - low) (b - 1) ≡ leb (base * base) (high * base + low + (b - 1))
  high_full e =
      let f : high + 1 ≡ base = omega arith in
      let s : high * base + base ≡ base * base = rw (← f) (omega arith) in
      test_iff (ltb (base - 1 - low) (b - 1)) (leb (base * base) (high * base + low + (b - 1)))
      (λ t. le-leb (base * base) (high * base + low + (b - 1)) (omega (arith, ltb-true (base - 1 - low) (b - 1) t)))
      (λ t. lt-ltb (base - 1 - low) (b - 1) (omega (arith, leb-true (base * base) (high * base + low + (b - 1)) t)))

  pub high-short : (high ≡ base - 1 → ⊥) → high < base → b ≤ base → leb (base * base) (high * base + low + (b - 1)) ≡ false
  high-short n h l =
      let s : (high + 2) * base ≤ base * base = mul-le-mul_right base (omega (arith, n)) in
      lt-leb (base * base) (high * base + low + (b - 1)) (omega arith)
