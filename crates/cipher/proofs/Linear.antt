-- L distributes over xor: each of its rotations does, since a rotation is two digits that change places.
use Rattle.cipher.proofs.Names.{L, ◌%◌, ◌*◌, ◌+◌, ◌-◌, ◌/◌, ◌<◌, ◌^◌, ◌∙◌, ◌≡◌, ◌⊕◌, ap, ap₂, arith, bit_xor, refl, rotl, shr_lt, sym}
use Rattle.cipher.proofs.Names.{xor_block, xor_mod, xor_shr, xor_swap, ℕ}
use Rattle.cipher.proofs.Rotation.{shl-mod}

-- what stands below bit 32 - n goes up by n, the rest comes down
pub rotl_digits : (j n x : ℕ) → j + n ≡ 32 → rotl x n ≡ x % 2 ^ j * 2 ^ n + x / 2 ^ j
unfolding rotl
rotl_digits j n x h =
    let e : 32 - n ≡ j = omega arith in
    ap₂ ◌+◌ (ap (λ (m : ℕ). x * 2 ^ n % 2 ^ m) (sym h) ∙ shl-mod x j n) (ap (λ (m : ℕ). x / 2 ^ m) e)

module _ (a b : ℕ) (ha : a < 2 ^ 32) (hb : b < 2 ^ 32) where
  rotl-xor : (j n : ℕ) → j + n ≡ 32 → rotl (a ⊕ b) n ≡ rotl a n ⊕ rotl b n
  rotl-xor j n h =
      let e : n + j ≡ 32 = omega arith in
      let la : a < 2 ^ (n + j) = rw e ha in
      let lb : b < 2 ^ (n + j) = rw e hb in
      rotl_digits j n (a ⊕ b) h ∙ ap₂ (λ (p q : ℕ). p * 2 ^ n + q) (xor_mod a b j) (xor_shr a b j)
      ∙ sym (xor_block n (a % 2 ^ j) (b % 2 ^ j) (a / 2 ^ j) (b / 2 ^ j) (shr_lt n j la) (shr_lt n j lb))
      ∙ ap₂ bit_xor (sym (rotl_digits j n a h)) (sym (rotl_digits j n b h))

  -- one rotation more of a map that distributes
  more : (f : ℕ → ℕ) (j n : ℕ) → j + n ≡ 32 → f (a ⊕ b) ≡ f a ⊕ f b → f (a ⊕ b) ⊕ rotl (a ⊕ b) n ≡ f a ⊕ rotl a n ⊕ (f b ⊕ rotl b n)
  more f j n h e = ap₂ bit_xor e (rotl-xor j n h) ∙ xor_swap (f a) (f b) (rotl a n) (rotl b n)

  pub L-xor : L (a ⊕ b) ≡ L a ⊕ L b
  unfolding L
  L-xor =
      let one : ℕ → ℕ = λ x. x ⊕ rotl x 2 in
      let two : ℕ → ℕ = λ x. one x ⊕ rotl x 10 in
      let three : ℕ → ℕ = λ x. two x ⊕ rotl x 18 in
      more three 8 24 refl (more two 14 18 refl (more one 22 10 refl (more (λ x. x) 30 2 refl refl)))
