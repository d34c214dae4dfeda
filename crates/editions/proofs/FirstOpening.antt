-- The search finds candidate i exactly where the test holds of it and of none before it, and none exactly where it holds of none.
use Rattle.block.proofs.Base.{◌+◌, ◌<◌, suc, zero, ℕ, ◌≡◌, refl, subst, Bool, cond, false, true, true≢false, List, [], ◌∷◌, arith, drop}
use Rattle.block.proofs.Base.{get_or, length, take, drop-drop}
use Rattle.cipher_mode.specs.Outcome.{finished}
use Rattle.editions.specs.Candidates.{sum, label_at}
use Rattle.editions.specs.Which.{Verdict, found_at, none_with, first_opening}

-- the test holds of candidate i and of none before it
pub record IsFirst (test : List ℕ → Bool) (labels lengths : List ℕ) (i : ℕ) : Type 0 where
  pub inside : i < length lengths
  pub passes : test (label_at labels lengths i) ≡ true
  pub none_before : (j : ℕ) → j < i → test (label_at labels lengths j) ≡ false

-- the test holds of no candidate
abbrev pub NonePasses : (List ℕ → Bool) → List ℕ → List ℕ → Type 0
NonePasses test labels lengths = (i : ℕ) → i < length lengths → test (label_at labels lengths i) ≡ false

-- candidate i, with its place and its part of the buffer
abbrev pub candidate : List ℕ → ℕ → Verdict
candidate lengths i = found_at i (sum (take i lengths)) (get_or lengths i 0)

found-at : {i i' s s' : ℕ} (n : ℕ) → i ≡ i' → s ≡ s' → found_at i s n ≡ found_at i' s' n
found-at n e f = rw (e, f)

-- what a test decides holds if each of the two does where it is decided so
by_test : {A : Type 0} (P : A → Type 0) {x y : A} (t : Bool) → (t ≡ true → P x) → (t ≡ false → P y) → P (cond t x y)
by_test P true f g = f refl
by_test P false f g = g refl

module _ (test : List ℕ → Bool) where
  -- none before candidate k of the others, nor the one before them
  none_yet : (labels ns : List ℕ) (n k : ℕ) → test (label_at labels (n ∷ ns) 0) ≡ false
      → ((j : ℕ) → j < k → test (label_at (drop n labels) ns j) ≡ false)
      → (j : ℕ) → j < suc k → test (label_at labels (n ∷ ns) j) ≡ false
  unfolding label_at sum
  none_yet labels ns n k e f zero h = e
  none_yet labels ns n k e f (suc j) h = rw (← drop-drop (sum (take j ns)) n labels) (f j (omega arith))

  -- what holds of the first candidate that passes, if there is one, and of none, if none does, holds of what the search gives
  searched : (labels lengths : List ℕ) (place start : ℕ) (P : Verdict → Type 0)
      → ((i : ℕ) → IsFirst test labels lengths i → P (found_at (place + i) (start + sum (take i lengths)) (get_or lengths i 0)))
      → (NonePasses test labels lengths → P (none_with (finished 0))) → P (first_opening test labels lengths place start)
  unfolding first_opening label_at sum
  searched labels [] place start P hit miss = miss (λ i h. absurd (omega arith))
  searched labels (n ∷ ns) place start P hit miss =
      by_test P (test (take n labels))
      (λ e. subst P (found-at n (omega arith) (omega arith))
      (hit 0 (record { inside = omega arith; passes = e; none_before = λ j h. absurd (omega arith) })))
      (λ e. searched (drop n labels) ns (place + 1) (start + n) P
      (λ i f. subst P (found-at (get_or ns i 0) (omega arith) (omega arith))
      (hit (suc i)
      (record {
        inside = omega (arith, f.inside);
        passes = rw (← drop-drop (sum (take i ns)) n labels) f.passes;
        none_before = none_yet labels ns n i e f.none_before;
      })))
      (λ f. miss (none_yet labels ns n (length ns) e f)))

  module _ (labels lengths : List ℕ) where
    pub by_search : (P : Verdict → Type 0) → ((i : ℕ) → IsFirst test labels lengths i → P (candidate lengths i))
        → (NonePasses test labels lengths → P (none_with (finished 0))) → P (first_opening test labels lengths 0 0)
    by_search P hit miss =
        searched labels lengths 0 0 P (λ i f. subst P (found-at (get_or lengths i 0) (omega arith) (omega arith)) (hit i f)) miss

    -- no two candidates are the first
    clash : {i j : ℕ} → IsFirst test labels lengths i → IsFirst test labels lengths j → i < j → ⊥
    clash f g h = let a = f.passes in let b = g.none_before _ h in true≢false (cc)

    pub first_is_found : (i : ℕ) → IsFirst test labels lengths i → first_opening test labels lengths 0 0 ≡ candidate lengths i
    first_is_found i f =
        by_search (λ v. v ≡ candidate lengths i)
        (λ j g. let a = clash f g in let b = clash g f in let same : j ≡ i = omega arith in rw same)
        (λ g. let a = f.passes in let b = g i f.inside in cc)

    pub none_is_found : NonePasses test labels lengths → first_opening test labels lengths 0 0 ≡ none_with (finished 0)
    none_is_found f =
        by_search (λ v. v ≡ none_with (finished 0)) (λ j g. let a = g.passes in let b = f j g.inside in cc) (λ g. refl)

    -- a search refuses nothing
    pub search-number : (first_opening test labels lengths 0 0).head ≡ finished 0
    search-number = by_search (λ v. v.head ≡ finished 0) (λ i f. refl) (λ f. refl)
