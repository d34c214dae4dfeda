-- The hash of two lists joined: the first's hash times H to the second's block count, xored with the second's hash.
use Rattle.ghash.proofs.Names.{Element, List, [], ◌++◌, ◌∙◌, ◌∷◌, ◌≡◌, ◌⊕◌, ap, arith, ghash, gmul, gmul_assoc, gmul-lt, gmul-one}
use Rattle.ghash.proofs.Names.{gpow, gpow-lt, hash_from, length, lit<, refl, sym, xor_assoc, xor-gmul, xor_swap, xor_zero_r, xors, ℕ}

pub hash-append : (h y : ℕ) (xs bs : List ℕ) → hash_from h y (xs ++ bs) ≡ hash_from h (hash_from h y xs) bs
unfolding hash_from
hash-append h y [] bs = refl
hash-append h y (a ∷ xs) bs = hash-append h (gmul (y ⊕ a) h) xs bs

-- the hash of sums is the sum of the hashes
pub hash-xors : (h y z : ℕ) (xs ys : List ℕ) → length xs ≡ length ys
    → hash_from h (y ⊕ z) (xors xs ys) ≡ hash_from h y xs ⊕ hash_from h z ys
unfolding hash_from
hash-xors h y z [] [] e = refl
hash-xors h y z [] (b ∷ ys) e = absurd (omega arith)
hash-xors h y z (a ∷ xs) [] e = absurd (omega arith)
hash-xors h y z (a ∷ xs) (b ∷ ys) e =
    rw (hash_from, xor_swap y z a b, xor-gmul (y ⊕ a) (z ⊕ b) h) (hash-xors h (gmul (y ⊕ a) h) (gmul (z ⊕ b) h) xs ys (omega arith))

module _ (h : ℕ) (hh : Element h) where
  pub hash_from-lt : (y : ℕ) (bs : List ℕ) → Element y → Element (hash_from h y bs)
  unfolding hash_from
  hash_from-lt y [] k = k
  hash_from-lt y (b ∷ bs) k = hash_from-lt (gmul (y ⊕ b) h) bs (gmul-lt (y ⊕ b) h hh)

  pub ghash-lt : (bs : List ℕ) → Element (ghash h bs)
  ghash-lt bs = hash_from-lt 0 bs (lit< tt)

  -- a start from y adds y times H to the block count
  pub hash_from-start : (bs : List ℕ) (y z : ℕ) → Element y → hash_from h (y ⊕ z) bs ≡ gmul y (gpow h (length bs)) ⊕ hash_from h z bs
  unfolding hash_from gpow
  hash_from-start [] y z k = ap (λ (w : ℕ). w ⊕ z) (sym (gmul-one y k))
  hash_from-start (b ∷ bs) y z k =
      rw (xor_assoc y z b, xor-gmul y (z ⊕ b) h, ← gmul_assoc y h (gpow h (length bs)) k hh (gpow-lt h (length bs)))
      (hash_from-start bs (gmul y h) (gmul (z ⊕ b) h) (gmul-lt y h hh))

  pub ghash-join : (xs bs : List ℕ) → ghash h (xs ++ bs) ≡ gmul (ghash h xs) (gpow h (length bs)) ⊕ ghash h bs
  ghash-join xs bs =
      hash-append h 0 xs bs
      ∙ ap (λ (w : ℕ). hash_from h w bs) (sym (xor_zero_r (ghash h xs)))
      ∙ hash_from-start bs (ghash h xs) 0 (ghash-lt xs)
