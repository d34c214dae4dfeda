-- What holds at every place below i, and at i, holds below i + 1: so a list is filled word by word.
use Rattle.block.proofs.Base.{◌*◌, ◌+◌, ◌<◌, ◌≤◌, suc, zero, ℕ, ◌∙◌, ◌≡◌, refl, subst, ⊎_elim, List, [], ◌∷◌, arith, get_or, length}
use Rattle.block.proofs.Base.{length-set, set, get_or-set_other, get_or-set_same}
use Rattle.lanes.specs.Each.{Each}
use Rattle.lanes.proofs.Bits.{lt-or-le}

pub one_more : (P : ℕ → Type 0) (i : ℕ) → P i → ((j : ℕ) → j < i → P j) → (j : ℕ) → j < i + 1 → P j
one_more P i p h j k = ⊎_elim (h j) (λ (g : i ≤ j). let e : i ≡ j = omega arith in subst P e p) (lt-or-le j i)

-- what holds at each place below 8
pub each8 : (P : ℕ → Type 0) → P 0 → P 1 → P 2 → P 3 → P 4 → P 5 → P 6 → P 7 → (r : ℕ) → r < 8 → P r
each8 P a b c d e f g h =
    let m = one_more P in m 7 h (m 6 g (m 5 f (m 4 e (m 3 d (m 2 c (m 1 b (m 0 a (λ r k. absurd (omega arith)))))))))

module _ (i v : ℕ) (a : List ℕ) (h : i < length a) where
  -- one word more
  pub word_more : (P : ℕ → ℕ → Type 0) → P i v → ((j : ℕ) → j < i → P j (get_or a j 0)) → (j : ℕ) → j < i + 1 → P j (get_or (set a i v) j 0)
  word_more P p H =
      one_more (λ j. P j (get_or (set a i v) j 0)) i (rw (get_or-set_same a i v 0 h) p)
      (λ j g. let n : j ≡ i → ⊥ = λ e. omega arith in rw (get_or-set_other a i j v 0 n) (H j g))

pub each_next : (f : ℕ → ℕ) (i v : ℕ) (a : List ℕ) → i < length a → v ≡ f i → Each f i a → Each f (i + 1) (set a i v)
each_next f i v a h = word_more i v a h (λ j x. x ≡ f j)

-- stores at p + k, p + k + t and so on
abbrev pub puts : ℕ → List ℕ → ℕ → ℕ → List ℕ → List ℕ
puts t s p k [] = s
puts t s p k (v ∷ vs) = puts t (set s (p + k) v) p (k + t) vs

module _ (t : ℕ) where
  pub puts_out : (vs s : List ℕ) (p k q : ℕ) → ((i : ℕ) → q ≡ p + k + t * i → ⊥) → get_or (puts t s p k vs) q 0 ≡ get_or s q 0
  puts_out [] s p k q h = refl
  puts_out (v ∷ vs) s p k q h =
      puts_out vs (set s (p + k) v) p (k + t) q (λ i e. h (suc i) (omega arith))
      ∙ get_or-set_other s (p + k) q v 0 (λ e. h 0 (omega arith))

  pub puts_in : (vs s : List ℕ) (p k i q : ℕ) → q ≡ p + k + t * i → 0 < t → i < length vs → p + k + t * length vs < length s + t
      → get_or (puts t s p k vs) q 0 ≡ get_or vs i 0
  puts_in [] s p k i q e ht h g = absurd (omega arith)
  puts_in (v ∷ vs) s p k zero q e ht h g =
      let f : q ≡ p + k = omega arith in
      rw f (puts_out vs (set s (p + k) v) p (k + t) (p + k) (λ i e. omega arith) ∙ get_or-set_same s (p + k) v 0 (omega arith))
  puts_in (v ∷ vs) s p k (suc i) q e ht h g =
      let l = length-set s (p + k) v in puts_in vs (set s (p + k) v) p (k + t) i q (omega arith) ht (omega arith) (omega arith)
