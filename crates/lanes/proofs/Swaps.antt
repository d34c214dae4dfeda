-- A masked swap of bits at a distance changes one binary digit of a word's number with that of a bit's number.
use Rattle.block.proofs.Base.{◌%◌, ◌*◌, ◌+◌, ◌-◌, ◌/◌, ◌<◌, ◌^◌, ◌≤◌, ℕ, ◌∙◌, ◌≡◌, ap, ap₂, sym, ◌⊎◌, inl, inr, ⊎_elim, add-div_right}
use Rattle.block.proofs.Base.{add-zero, div-eq_of_lt, arith, differ, pow_pos, xor_comm, xor_zero_r}
use Rattle.block.specs.Xor.{◌⊕◌}
use Rattle.block.proofs.Xor.{xor_again}
use Rattle.lanes.specs.Bits.{bit}
use Rattle.lanes.specs.Swaps.{differing, first_swapped, second_swapped}
use Rattle.lanes.proofs.Bits.{bit-small, bit-xor, bit-and, bit-zero, bit-shr, bit-mod, bit-low, bit_high, lt-or-le}

-- what has the same bit, added to the same
xor-bits : (c y u v : ℕ) → bit c u ≡ bit c v → bit c (y ⊕ u) ≡ bit c (y ⊕ v)
xor-bits c y u v h = bit-xor c y u ∙ ap (differ (bit c y)) h ∙ sym (bit-xor c y v)

-- digit d of c, d a power of two
abbrev pub digit : ℕ → ℕ → ℕ
digit d c = c / d % 2

zero-or-one : (x : ℕ) → (x % 2 ≡ 0) ⊎ (x % 2 ≡ 1)
zero-or-one x = ⊎_elim (λ (h : x % 2 < 1). inl (omega arith)) (λ (h : 1 ≤ x % 2). inr (omega arith)) (lt-or-le (x % 2) 1)

-- the mask has the bits whose digit d is 0
abbrev pub MaskOf : ℕ → ℕ → Type 0
MaskOf d m = (c : ℕ) → c < 64 → bit c m ≡ 1 - digit d c

module _ (d m : ℕ) (hd : 0 < d) (hm : MaskOf d m) where
  below : (c : ℕ) → d ≤ c → c / d ≡ (c - d) / d + 1
  below c h = let e : c ≡ c - d + d = omega arith in ap (λ (x : ℕ). x / d) e ∙ add-div_right (c - d) hd

  one-le : (c : ℕ) → digit d c ≡ 1 → d ≤ c
  one-le c h = ⊎_elim (λ (g : c < d). let f : c / d ≡ 0 = div-eq_of_lt g in absurd (omega arith)) (λ g. g) (lt-or-le c d)

  module _ (x y c : ℕ) (hc : c < 64) where
    differing_0 : digit d c ≡ 0 → bit c (differing d m x y) ≡ bit c (x / 2 ^ d ⊕ y)
    differing_0 h =
        let l = bit-small c (x / 2 ^ d ⊕ y) in
        let e : bit c m ≡ 1 = hm c hc ∙ omega arith in
        bit-and c (x / 2 ^ d ⊕ y) m ∙ rw e (omega arith)

    differing_1 : digit d c ≡ 1 → bit c (differing d m x y) ≡ bit c 0
    differing_1 h =
        let e : bit c m ≡ 0 = hm c hc ∙ omega arith in
        bit-and c (x / 2 ^ d ⊕ y) m ∙ rw (e, bit-zero c) (omega arith)

    second_0 : digit d c ≡ 0 → bit c (second_swapped d m x y) ≡ bit (d + c) x
    unfolding second_swapped
    second_0 h =
        xor-bits c y (differing d m x y) (x / 2 ^ d ⊕ y) (differing_0 h)
        ∙ rw (xor_comm (x / 2 ^ d) y, xor_again y (x / 2 ^ d)) (bit-shr d c x)

    second_1 : digit d c ≡ 1 → bit c (second_swapped d m x y) ≡ bit c y
    unfolding second_swapped
    second_1 h = xor-bits c y (differing d m x y) 0 (differing_1 h) ∙ ap (bit c) (xor_zero_r y)

  shl-low : (t c : ℕ) → c < 64 → c < d → bit c (t * 2 ^ d % 2 ^ 64) ≡ bit c 0
  shl-low t c hc h = bit-mod 64 c (t * 2 ^ d) hc ∙ ap (bit c) (sym (add-zero (t * 2 ^ d))) ∙ bit-low d c t 0 h (pow_pos d)

  shl-high : (t c : ℕ) → c < 64 → d ≤ c → bit c (t * 2 ^ d % 2 ^ 64) ≡ bit (c - d) t
  shl-high t c hc h =
      let e : c ≡ d + (c - d) = omega arith in
      bit-mod 64 c (t * 2 ^ d) hc ∙ ap₂ bit e (sym (add-zero (t * 2 ^ d))) ∙ bit_high d (c - d) t 0 (pow_pos d)

  module _ (x y c : ℕ) (hc : c < 64) where
    first_0 : digit d c ≡ 0 → bit c (first_swapped d m x y) ≡ bit c x
    unfolding first_swapped
    first_0 h =
        let t = differing d m x y in
        xor-bits c x (t * 2 ^ d % 2 ^ 64) 0
        (⊎_elim (shl-low t c hc)
        (λ (g : d ≤ c).
        let b = below c g in
        shl-high t c hc g ∙ differing_1 x y (c - d) (omega arith) (omega arith) ∙ bit-zero (c - d) ∙ sym (bit-zero c)) (lt-or-le c d))
        ∙ ap (bit c) (xor_zero_r x)

    first_1 : digit d c ≡ 1 → bit c (first_swapped d m x y) ≡ bit (c - d) y
    unfolding first_swapped
    first_1 h =
        let g = one-le c h in
        let b = below c g in
        let k = c - d in
        let e : d + k ≡ c = omega arith in
        bit-xor c x (differing d m x y * 2 ^ d % 2 ^ 64)
        ∙ ap₂ differ (sym (bit-shr d k x ∙ ap (λ (n : ℕ). bit n x) e))
        (shl-high (differing d m x y) c hc g ∙ differing_0 x y k (omega arith) (omega arith))
        ∙ sym (bit-xor k (x / 2 ^ d) (x / 2 ^ d ⊕ y))
        ∙ ap (bit k) (xor_again (x / 2 ^ d) y)

-- r with the digit d of c
abbrev pub dig : ℕ → ℕ → ℕ → ℕ
dig d r c = r - d * digit d r + d * digit d c

-- of the first n words f, those whose numbers differ in digit d alone change bits under the mask m; g are the words then
pub record Step (d m n : ℕ) (f g : ℕ → ℕ) : Type 0 where
  pub upper : (r : ℕ) → r < n → digit d r ≡ 0 → g r ≡ first_swapped d m (f r) (f (r + d))
  pub lower : (r : ℕ) → r < n → digit d r ≡ 1 → g r ≡ second_swapped d m (f (r - d)) (f r)

module _ (d m n : ℕ) (hd : 0 < d) (hm : MaskOf d m) (f g : ℕ → ℕ) (S : Step d m n f g) (r c : ℕ) (hr : r < n) (hc : c < 64) where
  -- x and y are the digits of r and c
  digits_are : (x y u v : ℕ) → digit d r ≡ x → digit d c ≡ y → r - d * x + d * y ≡ u → c - d * y + d * x ≡ v
      → bit v (f u) ≡ bit (dig d c r) (f (dig d r c))
  digits_are x y u v p q h k = rw (p, q, h, k)

  pub swapped : bit c (g r) ≡ bit (dig d c r) (f (dig d r c))
  swapped =
      ⊎_elim
      (λ (p : digit d r ≡ 0).
      ap (bit c) (S.upper r hr p)
      ∙ ⊎_elim (λ (q : digit d c ≡ 0). first_0 d m hd hm _ _ c hc q ∙ digits_are 0 0 r c p q (omega arith) (omega arith))
      (λ (q : digit d c ≡ 1).
      let l = one-le d m hd hm c q in
      first_1 d m hd hm _ _ c hc q ∙ digits_are 0 1 (r + d) (c - d) p q (omega arith) (omega arith)) (zero-or-one (c / d)))
      (λ (p : digit d r ≡ 1).
      let k = one-le d m hd hm r p in
      ap (bit c) (S.lower r hr p)
      ∙ ⊎_elim (λ (q : digit d c ≡ 0). second_0 d m hd hm _ _ c hc q ∙ digits_are 1 0 (r - d) (d + c) p q (omega arith) (omega arith))
      (λ (q : digit d c ≡ 1).
      let l = one-le d m hd hm c q in
      second_1 d m hd hm _ _ c hc q ∙ digits_are 1 1 r c p q (omega arith) (omega arith)) (zero-or-one (c / d)))
      (zero-or-one (r / d))
