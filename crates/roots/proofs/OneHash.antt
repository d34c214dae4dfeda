-- The hash of a list of blocks is a polynomial in H whose last coefficient is 0, and that of two lists xored is both hashes
-- xored: so different lists of one length have one hash under no more H than they have blocks.
use Rattle.block.proofs.Base.{suc, zero, ℕ, ◌∙◌, ◌≡◌, ap₂, refl, sym, ◌≢◌, List, [], ◌++◌, ◌∷◌, le_of_eq, le_of_suc-le-suc}
use Rattle.block.proofs.Base.{add-one, arith, xor_self, xor_zero_r, lit<, length, length-append, replicate}
use Rattle.block.specs.Xor.{◌⊕◌, xors}
use Rattle.block.proofs.Entries.{below-append}
use Rattle.block.proofs.Xor.{xor_same}
use Rattle.block.proofs.Xors.{length-xors, xors-below}
use Rattle.field.specs.Field.{gmul}
use Rattle.field.proofs.Distributes.{zero-gmul}
use Rattle.ghash.specs.Ghash.{hash_from, ghash}
use Rattle.ghash.proofs.Join.{hash-xors}
use Rattle.roots.specs.AtMost.{Having, AtMost}
use Rattle.roots.proofs.Horner.{Elements, horner}
use Rattle.roots.proofs.Roots.{Zeros, Root, fewer_roots}

-- one coefficient more, which is 0, is a factor h
horner_last : (h y : ℕ) (ds : List ℕ) → horner h y (ds ++ (0 ∷ [])) ≡ gmul (horner h y ds) h
unfolding horner
horner_last h y [] = xor_zero_r (gmul y h)
horner_last h y (d ∷ ds) = horner_last h (gmul y h ⊕ d) ds

-- every block is multiplied by h once more than it is as a coefficient
hash_horner : (h y : ℕ) (bs : List ℕ) → hash_from h (gmul y h) bs ≡ gmul (horner h y bs) h
unfolding hash_from horner
hash_horner h y [] = refl
hash_horner h y (b ∷ bs) = hash_horner h (gmul y h ⊕ b) bs

ghash_horner : (h : ℕ) (bs : List ℕ) → ghash h bs ≡ horner h 0 (bs ++ (0 ∷ []))
ghash_horner h bs = rw (horner_last h 0 bs) (rw (zero-gmul h) at (hash_horner h 0 bs))

xors-zeros : (xs ys : List ℕ) → length xs ≡ length ys → Zeros (xors xs ys) → xs ≡ ys
xors-zeros [] [] e z = refl
xors-zeros [] (b ∷ ys) e z = absurd (omega arith)
xors-zeros (a ∷ xs) [] e z = absurd (omega arith)
xors-zeros (a ∷ xs) (b ∷ ys) e z = ap₂ ◌∷◌ (xor_same a b b (z.0 ∙ sym (xor_self b))) (xors-zeros xs ys (omega arith) z.1)

zeros-front : (xs ys : List ℕ) → Zeros (xs ++ ys) → Zeros xs
zeros-front [] ys z = tt
zeros-front (x ∷ xs) ys z = (z.0, zeros-front xs ys z.1)

-- what follows from a property is had by the same elements
pub having_too : (P Q : ℕ → Type 0) (hs : List ℕ) → ((h : ℕ) → P h → Q h) → Having P hs → Having Q hs
having_too P Q hs f g = record { different = g.different; each = λ h m. let (e, p) = g.each h m in (e, f h p) }

module _ (xs ys : List ℕ) (same : length xs ≡ length ys) where
  -- the polynomial that is 0 where the hashes agree
  difference : List ℕ
  difference = xors xs ys ++ (0 ∷ [])

  difference_length : length difference ≡ suc (length xs)
  unfolding difference
  difference_length = rw (length-append (xors xs ys) (0 ∷ []), length-xors xs ys (le_of_eq same)) (add-one (length xs))

  agreeing_root : (h : ℕ) → ghash h xs ≡ ghash h ys → Root difference h
  unfolding difference
  agreeing_root h e = sym (ghash_horner h (xors xs ys)) ∙ hash-xors h 0 0 xs ys same ∙ rw e (xor_self (ghash h ys))

  pub few-agree : Elements xs → Elements ys → xs ≢ ys → AtMost (length xs) (λ h. ghash h xs ≡ ghash h ys)
  unfolding difference
  few-agree hx hy n hs g =
      let bounded : Elements difference = below-append _ (xors xs ys) (0 ∷ []) (xors-below 128 xs ys hx hy) (lit< tt, tt) in
      let nz : ¬ Zeros difference = λ z. n (xors-zeros xs ys same (zeros-front (xors xs ys) (0 ∷ []) z)) in
      le_of_suc-le-suc
      (rw difference_length at (fewer_roots hs difference bounded nz (having_too _ _ hs agreeing_root g)))

-- blocks of zeros in front change no hash
pub zeros-hash : (h k : ℕ) (bs : List ℕ) → ghash h (replicate k 0 ++ bs) ≡ ghash h bs
unfolding hash_from
zeros-hash h zero bs = refl
zeros-hash h (suc k) bs = rw (hash_from, zero-gmul h) (zeros-hash h k bs)
