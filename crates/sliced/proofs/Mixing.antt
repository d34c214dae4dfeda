-- L in every lane; a round, and four.
use Rattle.sliced.proofs.Names.{Held, L, L-bit, L-lt, List, T, [], ◌%◌, ◌*◌, ◌+◌, ◌/◌, ◌<◌, ◌^◌, ◌∙◌, ◌∷◌, ◌≡◌, ◌≤◌, ◌⊕◌, ap, ap₂}
use Rattle.sliced.proofs.Names.{arith, bit, bit-xor, differ, get_or, get_or-set_other, keyed, lane, lanes, length, lit<, mixed, rounds}
use Rattle.sliced.proofs.Names.{set, subbed, sym, tau-lt, xor_lt, ℕ}
use Rattle.sliced.proofs.Held.{lane-lt, held_lane, lane_held, held_next}

pub doubled_next : (f : ℕ → ℕ) (n i : ℕ) (s : List ℕ) → i < 256 → length s ≡ 512 → Held f n (256 + i) s
    → Held f n (256 + (i + 1)) (set s (i + 256) (get_or s i 0))
doubled_next f n i s hi hs h p k hp =
    held_next f n (i + 256) (get_or s i 0) s (omega arith)
    (λ k hc hk.
    let u : i / 8 % 32 ≡ (i + 256) / 8 % 32 = omega arith in
    let v : 8 * k + i % 8 ≡ 8 * k + (i + 256) % 8 = omega arith in
    h i k (omega arith) (omega arith) hk ∙ ap₂ (λ (a c : ℕ). bit a (f c)) u v)
    (λ q k hq. h q k (omega arith)) p k (omega arith)

-- the first i words done, the others as they were
abbrev pub Mixed : (ℕ → ℕ) → ℕ → List ℕ → ℕ → List ℕ → Type 0
Mixed f n a₀ i a = Held (mixed f a₀) n i a × ((p : ℕ) → i ≤ p → get_or a p 0 ≡ get_or a₀ p 0)

-- what is added to word i: five words of s, 30, 22, 14 and 8 bits apart
abbrev five : List ℕ → ℕ → ℕ
five s i = get_or s (i + 256) 0 ⊕ get_or s (i + 240) 0 ⊕ get_or s (i + 176) 0 ⊕ get_or s (i + 112) 0 ⊕ get_or s (i + 64) 0

module _ (f : ℕ → ℕ) (n : ℕ) (a₀ s : List ℕ) (hf : (e : ℕ) → f e < 2 ^ 32) (hs : Held f n 512 s) where
  mixed-bit : (i k : ℕ) → i < 256 → i % 8 < n → k < 64
      → bit k (get_or a₀ i 0 ⊕ five s i) ≡ bit (i / 8 % 32) (mixed f a₀ (8 * k + i % 8))
  unfolding mixed
  mixed-bit i k hi hc hk =
      let e = 8 * k + i % 8 in
      let r = i / 8 % 32 in
      let g : (d : ℕ) → d < 33 → bit k (get_or s (i + d * 8) 0) ≡ bit ((r + d) % 32) (f e) =
      λ d h.
      let u : (i + d * 8) / 8 % 32 ≡ (r + d) % 32 = omega arith in
      let v : 8 * k + (i + d * 8) % 8 ≡ e = omega arith in
      hs (i + d * 8) k (omega arith) (omega arith) hk ∙ ap₂ (λ (a c : ℕ). bit a (f c)) u v in
      let z : (r + 32) % 32 ≡ r = omega arith in
      let q : bit k (five s i) ≡ bit r (L (f e)) =
      simp (bit-xor, g 32 (lit< tt), z, g 30 (lit< tt), g 22 (lit< tt), g 14 (lit< tt), g 8 (lit< tt))
      (L-bit (f e) r (hf e) (omega arith)) in
      bit-xor k (get_or a₀ i 0) (five s i) ∙ ap₂ differ (held_lane a₀ n i k hi hc hk) q ∙ sym (bit-xor r (lane a₀ e) (L (f e)))

  pub mixed-next : (i : ℕ) (a : List ℕ) → i < 256 → length a ≡ 256 → Mixed f n a₀ i a
      → Mixed f n a₀ (i + 1) (set a i (get_or a i 0 ⊕ five s i))
  mixed-next i a hi ha h =
      let v : ℕ → ℕ = λ u. u ⊕ five s i in
      let next = held_next (mixed f a₀) n i (v (get_or a i 0)) a (omega arith)
      (λ k hc hk. ap (λ (u : ℕ). bit k (v u)) (h.1 i (omega arith)) ∙ mixed-bit i k hi hc hk) h.0 in
      (next, λ p hp. get_or-set_other a i p (v (get_or a i 0)) 0 (λ e. omega arith) ∙ h.1 p (omega arith))

pub round-done : (a b c d a' : List ℕ) (k n : ℕ) → Held (mixed (subbed b c d k) a) n 256 a'
    → (e : ℕ) → e < 512 → e % 8 < n → lane a' e ≡ lane a e ⊕ T (keyed b c d k e)
unfolding mixed T
round-done a b c d a' k n h e he hc =
    lane_held (mixed (subbed b c d k) a) n a' h e he hc
    (xor_lt 32 (lane a e) (L (subbed b c d k e)) (lane-lt a e) (L-lt _ (tau-lt (keyed b c d k e))))

pub four-done : (a b c d a' b' c' d' : List ℕ) (k l m n e : ℕ)
    → lane a' e ≡ lane a e ⊕ T (keyed b c d k e) → lane b' e ≡ lane b e ⊕ T (keyed c d a' l e)
    → lane c' e ≡ lane c e ⊕ T (keyed d a' b' m e) → lane d' e ≡ lane d e ⊕ T (keyed a' b' c' n e)
    → lanes a' b' c' d' e ≡ rounds (k ∷ l ∷ m ∷ n ∷ []) (lanes a b c d e)
unfolding keyed rounds
four-done a b c d a' b' c' d' k l m n e ha hb hc hd = rw (hd, hc, hb, ha)
