-- For H other than 0, changing exactly one block of a list changes the hash.
use Rattle.ghash.proofs.Names.{Element, List, [], ◌++◌, ◌∙◌, ◌∷◌, ◌≡◌, ◌≢◌, ◌⊕◌, ghash, gmul, gmul-lt, hash_from, sym, xor_comm}
use Rattle.ghash.proofs.Names.{xor-gmul, xor_lt, xor_meet, xor_same, xor_self, zero-product, ℕ, ⊎_elim}
use Rattle.ghash.proofs.Join.{hash-append}

module _ (h : ℕ) (hh : Element h) (nz : h ≢ 0) where
  -- one block's hash comes of one start alone
  step_cancel : (y z b : ℕ) → Element y → Element z → gmul (y ⊕ b) h ≡ gmul (z ⊕ b) h → y ≡ z
  step_cancel y z b hy hz e =
      let q : gmul (y ⊕ z) h ≡ 0 = rw (← xor_meet y b z, xor-gmul (y ⊕ b) (b ⊕ z) h, e, xor_comm b z) (xor_self (gmul (z ⊕ b) h)) in
      ⊎_elim (λ s. xor_same y z z (s ∙ sym (xor_self z))) (λ z0. absurd (nz z0)) (zero-product (y ⊕ z) h (xor_lt 128 y z hy hz) hh q)

  -- and so does that of many
  start_cancel : (bs : List ℕ) (y z : ℕ) → Element y → Element z → hash_from h y bs ≡ hash_from h z bs → y ≡ z
  unfolding hash_from
  start_cancel [] y z hy hz e = e
  start_cancel (b ∷ bs) y z hy hz e = step_cancel y z b hy hz (start_cancel bs _ _ (gmul-lt (y ⊕ b) h hh) (gmul-lt (z ⊕ b) h hh) e)

  pub one_changed : (xs : List ℕ) (b c : ℕ) (ys : List ℕ) → Element b → Element c → b ≢ c
      → ghash h (xs ++ (b ∷ ys)) ≢ ghash h (xs ++ (c ∷ ys))
  unfolding hash_from
  one_changed xs b c ys hb hc n e =
      let y = ghash h xs in
      let ends = rw (hash-append h 0 xs (b ∷ ys), hash-append h 0 xs (c ∷ ys)) at e in
      let s : gmul (y ⊕ b) h ≡ gmul (y ⊕ c) h = start_cancel ys _ _ (gmul-lt (y ⊕ b) h hh) (gmul-lt (y ⊕ c) h hh) ends in
      n (step_cancel b c y hb hc (rw (xor_comm b y, xor_comm c y) s))
