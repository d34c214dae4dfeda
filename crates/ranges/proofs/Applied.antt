-- A range applied to a text xors key stream into it there, and leaves the rest; so two of them give the same in either order, overlapping
-- or not.
use Rattle.ranges.proofs.Names.{List, Share, [], ◌∷◌, ◌≡◌, ◌≤◌, ◌⊕◌, applied, arith, length, refl, suc, xor_assoc, xor_comm, xors}
use Rattle.ranges.proofs.Names.{zero, ℕ}
use Rattle.ranges.proofs.KeyStream.{pads, chain_pads}
use Rattle.ranges.proofs.Copied.{copied, zipped, length_zipped, zips_commute}
use Rattle.ranges.proofs.AnyOrder.{worker_copies}

either : (x y z : ℕ) → (x ⊕ y) ⊕ z ≡ (x ⊕ z) ⊕ y
either x y z = rw (xor_assoc x y z, xor_assoc x z y, xor_comm y z)

-- what is xored all over and copied in part is xored in part
xored_in_part : (at n : ℕ) (k u : List ℕ) → copied at n (xors u k) u ≡ zipped ◌⊕◌ at n k u
unfolding zipped
xored_in_part at n [] [] = refl
xored_in_part at n (y ∷ k) [] = refl
xored_in_part at n [] (x ∷ u) = refl
xored_in_part zero zero (y ∷ k) (x ∷ u) = refl
xored_in_part zero (suc n) (y ∷ k) (x ∷ u) = rw (xored_in_part zero n k u)
xored_in_part (suc at) n (y ∷ k) (x ∷ u) = rw (xored_in_part at n k u)

module _ (rk iv : List ℕ) (p : Share) where
  -- n counters are enough for n bytes
  flips : (n : ℕ) (u : List ℕ) → length u ≤ n → applied rk iv p u ≡ zipped ◌⊕◌ p.start p.size (pads rk n iv) u
  flips n u h = rw (worker_copies rk iv u p u (omega arith), chain_pads rk n iv u (omega arith)) (xored_in_part p.start p.size _ u)

  pub length-applied : (t : List ℕ) → length (applied rk iv p t) ≡ length t
  length-applied t = rw (flips (length t) t (omega arith)) (length_zipped _ p.start p.size _ t)

-- Two ranges applied to one text give the same bytes in either order, overlapping or not, under any keys and IVs.
pub ranges_commute : (rk₁ iv₁ rk₂ iv₂ : List ℕ) (p q : Share) (t : List ℕ)
    → applied rk₁ iv₁ p (applied rk₂ iv₂ q t) ≡ applied rk₂ iv₂ q (applied rk₁ iv₁ p t)
ranges_commute rk₁ iv₁ rk₂ iv₂ p q t =
    let n = length t in
    let m = length-applied rk₁ iv₁ p t in
    let m' = length-applied rk₂ iv₂ q t in
    rw (flips rk₁ iv₁ p n (applied rk₂ iv₂ q t) (omega arith), flips rk₂ iv₂ q n (applied rk₁ iv₁ p t) (omega arith))
    (rw (flips rk₂ iv₂ q n t (omega arith), flips rk₁ iv₁ p n t (omega arith))
    (zips_commute ◌⊕◌ p.start p.size q.start q.size (pads rk₁ n iv₁) (pads rk₂ n iv₂) t (λ i x. either x _ _)))
