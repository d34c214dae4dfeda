-- Two blocks of four words are the same where the sum of their four xors is 0, and so the code settles a tag.
use Rattle.gcm.proofs.Names.{AreBytes, AreWords, List, ◌+◌, ◌∙◌, ◌∷◌, ◌≡◌, ◌⊕◌, ap, ap₂, arith, eq-eqb, eqb, eqb-true, four_entries}
use Rattle.gcm.proofs.Names.{get_or, length, length-words, refl, same, same_equal, same_refl, sym, test_iff, unwords, unwords-words}
use Rattle.gcm.proofs.Names.{words, words-below, words-unwords, xor_same, xor_self, xors, xors-four, ℕ}

xor-none : (a b : ℕ) → a ⊕ b ≡ 0 → a ≡ b
xor-none a b e = xor_same a b b (e ∙ sym (xor_self b))

-- as the code has it, d being the xor of the two blocks
abbrev summed : List ℕ → ℕ
summed d = get_or d 0 0 + get_or d 1 0 + get_or d 2 0 + get_or d 3 0

-- a block xored with itself leaves nothing
none : (a : List ℕ) → length a ≡ 4 → summed (xors a a) ≡ 0
none a n =
    ap summed (sym (xors-four a a n n)) ∙ rw (xor_self (get_or a 0 0), xor_self (get_or a 1 0), xor_self (get_or a 2 0), xor_self (get_or a 3 0))

module _ (a b : List ℕ) (na : length a ≡ 4) (nb : length b ≡ 4) where
  -- the sum is 0: the words are the same
  no_sum : summed (xors a b) ≡ 0 → a ≡ b
  no_sum e =
      let s = xors-four a b na nb in
      let w : (i : ℕ) → ℕ = λ i. get_or a i 0 ⊕ get_or b i 0 in
      let z : w 0 + w 1 + w 2 + w 3 ≡ 0 = ap summed s ∙ e in
      let e0 = xor-none (get_or a 0 0) (get_or b 0 0) (omega arith) in
      let e1 = xor-none (get_or a 1 0) (get_or b 1 0) (omega arith) in
      let e2 = xor-none (get_or a 2 0) (get_or b 2 0) (omega arith) in
      let e3 = xor-none (get_or a 3 0) (get_or b 3 0) (omega arith) in
      sym (four_entries a na) ∙ ap₂ ◌∷◌ e0 (ap₂ ◌∷◌ e1 (ap₂ ◌∷◌ e2 (ap₂ ◌∷◌ e3 refl))) ∙ four_entries b nb

  tag_test : AreWords a → AreWords b → eqb (summed (xors a b)) 0 ≡ same (unwords a) (unwords b)
  tag_test ha hb =
      let back : unwords a ≡ unwords b → a ≡ b = λ e. sym (words-unwords a na ha) ∙ ap words e ∙ words-unwords b nb hb in
      test_iff (eqb (summed (xors a b)) 0) (same (unwords a) (unwords b))
      (λ e. ap (λ (l : List ℕ). same (unwords a) (unwords l)) (sym (no_sum (eqb-true (summed (xors a b)) 0 e))) ∙ same_refl (unwords a))
      (λ e.
      let ab = back (same_equal (unwords a) (unwords b) e) in
      eq-eqb (summed (xors a b)) 0 (ap (λ (l : List ℕ). summed (xors a l)) (sym ab) ∙ none a na))

-- as `is_tag` has it: f the words of the sixteen bytes, e those of the expected tag, d the xor of the two
pub is_tag-words : (s f e d : List ℕ) → length s ≡ 16 → AreBytes s → f ≡ words s → length e ≡ 4 → AreWords e → d ≡ xors f e
    → eqb (summed d) 0 ≡ same s (unwords e)
is_tag-words s f e d n b ef le we ed =
    let lf : length f ≡ 4 = ap length ef ∙ length-words s in
    let wf : AreWords f = rw ef (words-below s b) in
    ap (λ (l : List ℕ). eqb (summed l) 0) ed ∙ tag_test f e lf le wf we
    ∙ ap (λ (l : List ℕ). same l (unwords e)) (ap unwords ef ∙ unwords-words s n b)
