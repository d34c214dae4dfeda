-- Stretches of one list put into another: in any order, overlapping or not, the same comes of it, and stretches that are copied and
-- follow one another are one.
use Rattle.ranges.proofs.Names.{List, [], ◌++◌, ◌+◌, ◌∙◌, ◌∷◌, ◌≡◌, ◌≤◌, add-zero, ap, arith, drop, drop-nil, get_or, laid_at, length}
use Rattle.ranges.proofs.Names.{over, refl, suc, take, take-append-drop, take-nil, zero, ℕ}

-- u with n bytes from `at` on put through f with those of t, as far as both go
unfoldable pub zipped : (ℕ → ℕ → ℕ) → ℕ → ℕ → List ℕ → List ℕ → List ℕ
zipped f at n [] u = u
zipped f at n (c ∷ t) [] = []
zipped f zero zero (c ∷ t) (x ∷ u) = x ∷ u
zipped f zero (suc n) (c ∷ t) (x ∷ u) = f x c ∷ zipped f zero n t u
zipped f (suc at) n (c ∷ t) (x ∷ u) = x ∷ zipped f at n t u

-- copied from t
abbrev pub copied : ℕ → ℕ → List ℕ → List ℕ → List ℕ
copied at n t u = zipped (λ x c. c) at n t u

module _ (f : ℕ → ℕ → ℕ) where
  pub length_zipped : (at n : ℕ) (t u : List ℕ) → length (zipped f at n t u) ≡ length u
  unfolding zipped
  length_zipped at n [] u = refl
  length_zipped at n (c ∷ t) [] = refl
  length_zipped zero zero (c ∷ t) (x ∷ u) = refl
  length_zipped zero (suc n) (c ∷ t) (x ∷ u) = ap suc (length_zipped zero n t u)
  length_zipped (suc at) n (c ∷ t) (x ∷ u) = ap suc (length_zipped at n t u)

  pub none_zipped : (at : ℕ) (t u : List ℕ) → zipped f at 0 t u ≡ u
  unfolding zipped
  none_zipped at [] u = refl
  none_zipped at (c ∷ t) [] = refl
  none_zipped zero (c ∷ t) (x ∷ u) = refl
  none_zipped (suc at) (c ∷ t) (x ∷ u) = rw (none_zipped at t u)

  -- two stretches in either order, where at each place f takes the two entries in either order
  pub zips_commute : (a m b n : ℕ) (t s u : List ℕ)
      → ((i x : ℕ) → f (f x (get_or s i 0)) (get_or t i 0) ≡ f (f x (get_or t i 0)) (get_or s i 0))
      → zipped f a m t (zipped f b n s u) ≡ zipped f b n s (zipped f a m t u)
  unfolding zipped
  zips_commute a m b n [] s u e = refl
  zips_commute a m b n (c ∷ t) [] u e = refl
  zips_commute a m b n (c ∷ t) (d ∷ s) [] e = refl
  zips_commute zero zero zero zero (c ∷ t) (d ∷ s) (x ∷ u) e = refl
  zips_commute zero zero zero (suc n) (c ∷ t) (d ∷ s) (x ∷ u) e = refl
  zips_commute zero zero (suc b) n (c ∷ t) (d ∷ s) (x ∷ u) e = refl
  zips_commute zero (suc m) zero zero (c ∷ t) (d ∷ s) (x ∷ u) e = refl
  zips_commute (suc a) m zero zero (c ∷ t) (d ∷ s) (x ∷ u) e = refl
  zips_commute zero (suc m) zero (suc n) (c ∷ t) (d ∷ s) (x ∷ u) e = rw (e 0 x, zips_commute zero m zero n t s u (λ i. e (suc i)))
  zips_commute zero (suc m) (suc b) n (c ∷ t) (d ∷ s) (x ∷ u) e = rw (zips_commute zero m b n t s u (λ i. e (suc i)))
  zips_commute (suc a) m zero (suc n) (c ∷ t) (d ∷ s) (x ∷ u) e = rw (zips_commute a m zero n t s u (λ i. e (suc i)))
  zips_commute (suc a) m (suc b) n (c ∷ t) (d ∷ s) (x ∷ u) e = rw (zips_commute a m b n t s u (λ i. e (suc i)))

-- a stretch and the one behind it
pub copies-join : (at m n end : ℕ) (t u : List ℕ) → end ≡ at + m → copied at m t (copied end n t u) ≡ copied at (m + n) t u
unfolding zipped
copies-join at m n end [] u e = refl
copies-join at m n end (c ∷ t) [] e = refl
copies-join zero zero n end (c ∷ t) (x ∷ u) e =
    let z : end ≡ 0 = omega (arith, e) in
    let k : 0 + n ≡ n = omega arith in
    rw (z, k) (none_zipped (λ x c. c) 0 (c ∷ t) (copied 0 n (c ∷ t) (x ∷ u)))
copies-join zero (suc m) n zero (c ∷ t) (x ∷ u) e = absurd (omega (arith, e))
copies-join zero (suc m) n (suc end) (c ∷ t) (x ∷ u) e =
    let k : suc m + n ≡ suc (m + n) = omega arith in
    rw k (ap {B = List ℕ} (λ l. c ∷ l) (copies-join zero m n end t u (omega (arith, e))))
copies-join (suc at) m n zero (c ∷ t) (x ∷ u) e = absurd (omega (arith, e))
copies-join (suc at) m n (suc end) (c ∷ t) (x ∷ u) e =
    ap {B = List ℕ} (λ l. x ∷ l) (copies-join at m n end t u (omega (arith, e)))

-- all of a list
pub all_copied : (t u : List ℕ) → length t ≤ length u → copied 0 (length t) t u ≡ over t u
unfolding zipped
all_copied [] u h = refl
all_copied (c ∷ t) [] h = absurd (omega (arith, h))
all_copied (c ∷ t) (x ∷ u) h = ap {B = List ℕ} (λ l. c ∷ l) (all_copied t u (omega (arith, h)))

pub nothing_laid : (at : ℕ) (u : List ℕ) → laid_at at [] u ≡ u
nothing_laid at u = ap (λ (k : ℕ). take at u ++ drop k u) (add-zero at) ∙ take-append-drop at u

-- a stretch that is laid is copied
pub laid_copied : (at n : ℕ) (t u : List ℕ) → length t ≤ length u → laid_at at (take n (drop at t)) u ≡ copied at n t u
unfolding zipped
laid_copied at n [] u h = ap (λ (s : List ℕ). laid_at at s u) (ap (take n) (drop-nil at) ∙ take-nil n) ∙ nothing_laid at u
laid_copied at n (c ∷ t) [] h = absurd (omega (arith, h))
laid_copied zero zero (c ∷ t) (x ∷ u) h = refl
laid_copied zero (suc n) (c ∷ t) (x ∷ u) h =
    let s = take n t in
    let k : 0 + suc (length s) ≡ suc (0 + length s) = omega arith in
    ap (λ (j : ℕ). c ∷ (s ++ drop j (x ∷ u))) k
    ∙ ap {B = List ℕ} (λ l. c ∷ l) (laid_copied zero n t u (omega (arith, h)))
laid_copied (suc at) n (c ∷ t) (x ∷ u) h =
    let s = take n (drop at t) in
    let k : suc at + length s ≡ suc (at + length s) = omega arith in
    ap (λ (j : ℕ). x ∷ (take at u ++ (s ++ drop j (x ∷ u)))) k
    ∙ ap {B = List ℕ} (λ l. x ∷ l) (laid_copied at n t u (omega (arith, h)))
