-- The words of a counter with carries between them are the words of its sum.
use Rattle.sliced.proofs.Names.{Added, AreWords, Blank, Bool, Kept, List, ◌%◌, ◌*◌, ◌+◌, ◌/◌, ◌<◌, ◌^◌, ◌∙◌, ◌≡◌, ap, arith}
use Rattle.sliced.proofs.Names.{below_at, bit, bit-zero, bytes_of, bytes_of-number_of, carry_at, ctr_jump, digits_div, digits_mod, false}
use Rattle.sliced.proofs.Names.{gcm-jump-words, get_or, jumped, lane, lanes, length-unwords, lit<, mod-mul, number_of, number_of-unwords}
use Rattle.sliced.proofs.Names.{refl, sym, true, unwords, unwords-bytes, words, words-unwords, ℕ}
use Rattle.sliced.proofs.Held.{lane-lt, lane_is, lanes-words}

-- nothing in a lane, and no carry
blank_lane : (x : List ℕ) → Blank x → (e : ℕ) → lane x e ≡ 0
blank_lane x h e = lane_is x e 0 (lit< tt) (λ i g. ap (bit (e / 8)) (h (8 * i + e % 8)) ∙ bit-zero (e / 8) ∙ sym (bit-zero i))

no_carry : (y : List ℕ) → Blank y → (e : ℕ) → carry_at y e ≡ 0
unfolding carry_at
no_carry y h e = ap (bit (e / 8)) (h (e % 8)) ∙ bit-zero (e / 8)

-- one digit, over any base
digit : (A B h c k w y : ℕ) → 0 < A → w < B → w + B * y ≡ c + k → (h * B + c + k) % (A * B) ≡ (h + y) % A * B + w
digit A B h c k w y ha hw e =
    let t : h * B + c + k ≡ (h + y) * B + w = omega arith in
    let hb : 0 < B = omega arith in
    rw (t, mod-mul ((h + y) * B + w) ha hb, digits_div (h + y) hw, digits_mod (h + y) hw)

last-digit : (B c y w z : ℕ) → w < B → w + B * z ≡ c + y → (c + y) % B ≡ w
last-digit B c y w z hw e = let t : c + y ≡ z * B + w = omega arith in rw t (digits_mod z hw)

-- the number of a block by its words
block-number : (x : List ℕ) → AreWords x
    → number_of (unwords x) ≡ ((get_or x 0 0 * 2 ^ 32 + get_or x 1 0) * 2 ^ 32 + get_or x 2 0) * 2 ^ 32 + get_or x 3 0
block-number x h = number_of-unwords x h ∙ omega arith

-- a word to which nothing is carried
alone : (w c y u : ℕ) → c < 2 ^ 32 → u ≡ 0 → w + 2 ^ 32 * y ≡ c + u → (w ≡ c) × (y ≡ 0)
alone w c y u h z e = omega arith

-- a word added to a number alone, and to a carry alone
pub added-number : (w : ℕ) (x₀ y₀ x y : List ℕ) (k e : ℕ) → Added w x₀ y₀ x y → e < 512 → lane x₀ e ≡ k → Blank y₀
    → lane x e + 2 ^ 32 * carry_at y e ≡ w + k
added-number w x₀ y₀ x y k e h he f b = let z = no_carry y₀ b e in h e he ∙ omega arith

pub added_carry : (w : ℕ) (x₀ y₀ x y : List ℕ) (e : ℕ) → Added w x₀ y₀ x y → e < 512 → Blank x₀
    → lane x e + 2 ^ 32 * carry_at y e ≡ w + carry_at y₀ e
added_carry w x₀ y₀ x y e h he b = let z = blank_lane x₀ b e in h e he ∙ omega arith

-- the lanes of four planes, each the sum of a word of c and what is carried to it; y' is carried out of the last word
module _ (c x0 x1 x2 x3 y y' : List ℕ) (k e y0 y1 y2 : ℕ) (hc : AreWords c)
    (e3 : lane x3 e + 2 ^ 32 * carry_at y e ≡ get_or c 3 0 + k) (e2 : lane x2 e + 2 ^ 32 * y2 ≡ get_or c 2 0 + carry_at y' e)
    (e1 : lane x1 e + 2 ^ 32 * y1 ≡ get_or c 1 0 + y2) (e0 : lane x0 e + 2 ^ 32 * y0 ≡ get_or c 0 0 + y1) where
  lanes_count : (wide : Bool) → Kept wide y y' → unwords (lanes x0 x1 x2 x3 e) ≡ jumped wide (unwords c) k
  unfolding ctr_jump
  lanes_count true h =
      let w = lanes x0 x1 x2 x3 e in
      let n : (number_of (unwords c) + k) % 2 ^ 128 ≡ number_of (unwords w) =
      ap (λ (v : ℕ). (v + k) % 2 ^ 128) (block-number c hc)
      ∙ digit (2 ^ 96) (2 ^ 32) _ _ k _ (carry_at y e) (lit< tt) (lane-lt x3 e) e3
      ∙ ap (λ (v : ℕ). v * 2 ^ 32 + lane x3 e) (digit (2 ^ 64) (2 ^ 32) _ _ _ _ y2 (lit< tt) (lane-lt x2 e) (rw h at e2)
      ∙ ap (λ (v : ℕ). v * 2 ^ 32 + lane x2 e) (digit (2 ^ 32) (2 ^ 32) _ _ _ _ y1 (lit< tt) (lane-lt x1 e) e1
      ∙ ap (λ (v : ℕ). v * 2 ^ 32 + lane x1 e) (last-digit (2 ^ 32) _ _ _ y0 (lane-lt x0 e) e0)))
      ∙ sym (block-number w (lanes-words x0 x1 x2 x3 e)) in
      sym (ap (bytes_of 16) n ∙ (rw (length-unwords w) at (bytes_of-number_of (unwords w) (unwords-bytes w))))
  lanes_count false h =
      let b = below_at (2 ^ 32) c (lit< tt) hc in
      let r2 = alone (lane x2 e) (get_or c 2 0) y2 (carry_at y' e) (b 2) (no_carry y' h e) e2 in
      let r1 = alone (lane x1 e) (get_or c 1 0) y1 y2 (b 1) r2.1 e1 in
      let r0 = alone (lane x0 e) (get_or c 0 0) y0 y1 (b 0) r1.1 e0 in
      rw (r0.0, r1.0, r2.0)
      (gcm-jump-words c (lane x3 e) k (b 3) (sym (last-digit (2 ^ 32) (get_or c 3 0) k (lane x3 e) (carry_at y e) (lane-lt x3 e) e3)))

  -- as the words of a block
  pub lanes-counted : (wide : Bool) → Kept wide y y' → lanes x0 x1 x2 x3 e ≡ words (jumped wide (unwords c) k)
  lanes-counted wide h =
      sym (words-unwords (lanes x0 x1 x2 x3 e) refl (lanes-words x0 x1 x2 x3 e)) ∙ ap words (lanes_count wide h)
