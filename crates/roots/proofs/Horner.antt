-- The value of a polynomial over the field by Horner's rule, its highest coefficient first, and its quotient by x + r, whose
-- coefficients are the values on the way to its value at r.
use Rattle.block.proofs.Base.{◌^◌, suc, ℕ, ◌≡◌, ap, refl, sym, List, [], ◌∷◌, xor_lt, xor_self, xor_zero_r, length}
use Rattle.block.specs.Below.{Below}
use Rattle.block.specs.Xor.{◌⊕◌}
use Rattle.block.proofs.Xor.{xor_swap, xor_meet}
use Rattle.field.specs.Field.{Element, gmul}
use Rattle.field.proofs.Bounded.{gmul-lt}
use Rattle.field.proofs.Distributes.{gmul-xor, xor-gmul}
use Rattle.field.proofs.Commutes.{gmul_comm, gmul_assoc}

abbrev pub Elements : List ℕ → Type 0
Elements = Below (2 ^ 128)

-- the value at h, where the coefficients before these have the value y
unfoldable pub horner : ℕ → ℕ → List ℕ → ℕ
horner h y [] = y
horner h y (d ∷ ds) = horner h (gmul y h ⊕ d) ds

-- the quotient by x + r, where the coefficients before these have the value y at r
unfoldable pub quotient : ℕ → ℕ → List ℕ → List ℕ
quotient r y [] = []
quotient r y (d ∷ ds) = y ∷ quotient r (gmul y r ⊕ d) ds

pub quotient_length : (r y : ℕ) (ds : List ℕ) → length (quotient r y ds) ≡ length ds
unfolding quotient
quotient_length r y [] = refl
quotient_length r y (d ∷ ds) = ap suc (quotient_length r (gmul y r ⊕ d) ds)

step-lt : (y r d : ℕ) → Element r → Element d → Element (gmul y r ⊕ d)
step-lt y r d hr hd = xor_lt 128 (gmul y r) d (gmul-lt y r hr) hd

pub quotient_elements : (r y : ℕ) (ds : List ℕ) → Element r → Element y → Elements ds → Elements (quotient r y ds)
unfolding quotient
quotient_elements r y [] hr hy hd = tt
quotient_elements r y (d ∷ ds) hr hy hd = (hy, quotient_elements r (gmul y r ⊕ d) ds hr (step-lt y r d hr hd.0) hd.1)

pub horner_lt : (h y : ℕ) (ds : List ℕ) → Element h → Element y → Elements ds → Element (horner h y ds)
unfolding horner
horner_lt h y [] hh hy hd = hy
horner_lt h y (d ∷ ds) hh hy hd = horner_lt h (gmul y h ⊕ d) ds hh (step-lt y h d hh hd.0) hd.1

module _ (h r : ℕ) (hh : Element h) (hr : Element r) where
  -- where a and b differ by h + r times c, one step on they differ by h + r times what the same step makes of c
  carried : (a b c : ℕ) → Element b → Element c → a ⊕ b ≡ gmul (h ⊕ r) c → gmul a h ⊕ gmul b r ≡ gmul (h ⊕ r) (gmul c h ⊕ b)
  carried a b c hb hc e =
      let hs = xor_lt 128 h r hh hr in
      rw (gmul-xor (h ⊕ r) (gmul c h) b, ← gmul_assoc (h ⊕ r) c h hs hc hh, ← e, xor-gmul a b h, gmul_comm (h ⊕ r) b hs hb, gmul-xor b h r)
      (sym (xor_meet (gmul a h) (gmul b h) (gmul b r)))

  -- the values at h and at r differ by h + r times the quotient's value at h
  pub divided : (a b c : ℕ) (ds : List ℕ) → Element b → Element c → Elements ds → a ⊕ b ≡ gmul (h ⊕ r) c
      → horner h a ds ⊕ horner r b ds ≡ gmul (h ⊕ r) (horner h c (quotient r b ds))
  unfolding horner quotient
  divided a b c [] hb hc hd e = e
  divided a b c (d ∷ ds) hb hc hd e =
      divided (gmul a h ⊕ d) (gmul b r ⊕ d) (gmul c h ⊕ b) ds (step-lt b r d hr hd.0) (step-lt c h b hh hb) hd.1
      (rw (xor_swap (gmul a h) d (gmul b r) d, xor_self d, xor_zero_r) (carried a b c hb hc e))
