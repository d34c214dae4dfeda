-- A polynomial over the field that is not 0 has fewer roots than coefficients: each root other than r is one of the quotient by
-- x + r, which has one coefficient less and is not 0 either.
use Rattle.block.proofs.Base.{◌<◌, suc-le-suc, ℕ, ◌∙◌, ◌≡◌, ap, ap₂, sym, ◌≢◌, ⊎_elim, List, PairwiseOf-cons, [], ◌∷◌, mem-cons_of_mem}
use Rattle.block.proofs.Base.{mem-cons_self, rel_of_Pairwise-cons, zero-lt-suc, xor_lt, xor_self, lit<, length}
use Rattle.block.specs.Xor.{◌⊕◌}
use Rattle.block.proofs.Xor.{xor_same}
use Rattle.field.specs.Field.{Element, gmul}
use Rattle.field.proofs.Distributes.{gmul-zero, zero-gmul}
use Rattle.field.proofs.Inverse.{zero-product}
use Rattle.roots.specs.AtMost.{Having}
use Rattle.roots.proofs.Horner.{Elements, horner, horner_lt, quotient, quotient_length, quotient_elements, divided}

abbrev pub Zeros : List ℕ → Type 0
Zeros [] = Unit {0}
Zeros (d ∷ ds) = (d ≡ 0) × Zeros ds

abbrev pub Root : List ℕ → ℕ → Type 0
Root ds h = horner h 0 ds ≡ 0

-- the first value on the way is the highest coefficient
from_zero : (h d : ℕ) → gmul 0 h ⊕ d ≡ d
from_zero h d = ap (λ (w : ℕ). w ⊕ d) (zero-gmul h)

-- where the quotient and what is left over are 0, so is the polynomial
all_zeros : (r y : ℕ) (ds : List ℕ) → Zeros (quotient r y ds) → horner r y ds ≡ 0 → (y ≡ 0) × Zeros ds
unfolding horner quotient
all_zeros r y [] z e = (e, tt)
all_zeros r y (d ∷ ds) z e =
    let rest = all_zeros r (gmul y r ⊕ d) ds z.1 e in
    (z.0, (rw (z.0, from_zero r d) at rest.0, rest.1))

module _ (r d : ℕ) (ds : List ℕ) (hr : Element r) (hd : Elements (d ∷ ds)) (root : Root (d ∷ ds) r) where
  -- the value from the highest coefficient on
  root_rest : (h : ℕ) → Root (d ∷ ds) h → horner h d ds ≡ 0
  unfolding horner
  root_rest h e = rw (horner, from_zero h d) at e

  quotient_not-zero : ¬ Zeros (d ∷ ds) → ¬ Zeros (quotient r d ds)
  quotient_not-zero nz z = nz (all_zeros r d ds z (root_rest r root))

  quotient_root : (h : ℕ) → Element h → r ≢ h → Root (d ∷ ds) h → Root (quotient r d ds) h
  quotient_root h hh n e =
      let q = quotient r d ds in
      let hq = quotient_elements r d ds hr hd.0 hd.1 in
      let parts = divided h r hh hr d d 0 ds hd.0 (lit< tt) hd.1 (xor_self d ∙ sym (gmul-zero (h ⊕ r))) in
      ⊎_elim (λ z. absurd (n (sym (xor_same h r r (z ∙ sym (xor_self r)))))) (λ v. v)
      (zero-product (h ⊕ r) (horner h 0 q) (xor_lt 128 h r hh hr) (horner_lt h 0 q hh (lit< tt) hq)
      (sym parts ∙ ap₂ ◌⊕◌ (root_rest h e) (root_rest r root)))

pub fewer_roots : (hs ds : List ℕ) → Elements ds → ¬ Zeros ds → Having (Root ds) hs → length hs < length ds
fewer_roots [] [] hd nz g = absurd (nz tt)
fewer_roots [] (d ∷ ds) hd nz g = zero-lt-suc (length ds)
fewer_roots (r ∷ hs) [] hd nz g = absurd (nz tt)
fewer_roots (r ∷ hs) (d ∷ ds) hd nz g =
    let (hr, root) = g.each r mem-cons_self in
    let q = quotient r d ds in
    let others : Having (Root q) hs =
    record {
      different = PairwiseOf-cons g.different;
      each = λ h m.
          let (hh, e) = g.each h (mem-cons_of_mem r m) in
          (hh, quotient_root r d ds hr hd root h hh (rel_of_Pairwise-cons g.different m) e);
    } in
    let fewer = fewer_roots hs q (quotient_elements r d ds hr hd.0 hd.1) (quotient_not-zero r d ds hr hd root nz) others in
    suc-le-suc (rw quotient_length at fewer)
