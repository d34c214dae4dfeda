-- For H other than 0 the hash of a label and a text changes with a change inside one block of either, and with one
-- zero byte more at the end of either, which the length block tells.
use Rattle.ghash.proofs.Names.{AreBytes, Element, Hashable, List, OneBlock, [], ◌%◌, ◌*◌, ◌++◌, ◌+◌, ◌-◌, ◌<◌, ◌∙◌, ◌∷◌, ◌≡◌, ◌≢◌}
use Rattle.ghash.proofs.Names.{ap, append_assoc, arith, auth_blocks, below-drop, block_of, blocks, drop, drop-drop, eq-zero-or-pos}
use Rattle.ghash.proofs.Names.{ghash, length, length-append, length-drop, length-take-le, length_block, refl, sym, take, take_all}
use Rattle.ghash.proofs.Names.{take-append-drop, ℕ, ⊎_elim}
use Rattle.ghash.proofs.Blocks.{block_of-lt, block_of-same, blocks_at, blocks-append, blocks-zero, parts_same}
use Rattle.ghash.proofs.Lengths.{length_block-lt, length_block-same}
use Rattle.ghash.proofs.OneChanged.{one_changed}

-- a list's blocks among others, around the one at k
around : (k : ℕ) (xs c ys : List ℕ) → 16 * k < length c
    → xs ++ (blocks c ++ ys) ≡ (xs ++ blocks (take (16 * k) c)) ++ (block_of (drop (16 * k) c) ∷ (blocks (drop (16 * k + 16) c) ++ ys))
around k xs c ys h =
    let cut : blocks c ≡ blocks (take (16 * k) c) ++ blocks (drop (16 * k) c) =
    ap blocks (sym (take-append-drop (16 * k) c)) ∙ blocks-append k _ _ (length-take-le (16 * k) c (omega arith)) in
    rw (cut, blocks_at c (16 * k) h) (simp append_assoc)

module _ (h : ℕ) (hh : Element h) (nz : h ≢ 0) where
  -- one block changed, whatever is hashed before and after the list
  changed : (xs a b ys : List ℕ) → AreBytes a → AreBytes b → OneBlock a b
      → ghash h (xs ++ (blocks a ++ ys)) ≢ ghash h (xs ++ (blocks b ++ ys))
  changed xs a b ys ha hb o e =
      let k = 16 * o.place in
      let x = drop k a in
      let y = drop k b in
      let hx = below-drop 256 k a ha in
      let hy = below-drop 256 k b hb in
      let n : length x ≡ length y = simp length-drop (rw o.lengths) in
      ⊎_elim (λ z. o.apart (sym (take_all k a (omega arith)) ∙ o.before ∙ take_all k b (omega (arith, o.lengths))))
      (λ p.
      one_changed h hh nz (xs ++ blocks (take k b)) (block_of x) (block_of y) (blocks (drop (k + 16) b) ++ ys)
      (block_of-lt x hx) (block_of-lt y hy)
      (λ same. o.apart (parts_same k a b o.before (parts_same 16 x y (block_of-same x y n hx hy same) (simp drop-drop o.after))))
      (rw (around o.place xs a ys (omega arith), around o.place xs b ys (omega (arith, o.lengths)), o.before, o.after) at e))
      (eq-zero-or-pos (length a - k))

  pub label_changed : (a b t : List ℕ) → AreBytes a → AreBytes b → OneBlock a b → ghash h (auth_blocks a t) ≢ ghash h (auth_blocks b t)
  unfolding auth_blocks
  label_changed a b t ha hb o e = changed [] a b (blocks t ++ (length_block (length b) (length t) ∷ [])) ha hb o (rw o.lengths at e)

  pub text_changed : (a t u : List ℕ) → AreBytes t → AreBytes u → OneBlock t u → ghash h (auth_blocks a t) ≢ ghash h (auth_blocks a u)
  unfolding auth_blocks
  text_changed a t u ht hu o e = changed (blocks a) t u (length_block (length a) (length u) ∷ []) ht hu o (rw o.lengths at e)

  -- lists that make the same blocks are told apart by their lengths
  lengths-told : (a t b u : List ℕ) → blocks a ≡ blocks b → blocks t ≡ blocks u
      → Hashable (length a) → Hashable (length t) → Hashable (length b) → Hashable (length u)
      → ¬ ((length a ≡ length b) × (length t ≡ length u)) → ghash h (auth_blocks a t) ≢ ghash h (auth_blocks b u)
  unfolding auth_blocks
  lengths-told a t b u p q sa st sb su d e =
      one_changed h hh nz (blocks b ++ blocks u) _ _ [] (length_block-lt (length a) (length t)) (length_block-lt (length b) (length u))
      (λ s. d (length_block-same (length a) (length t) (length b) (length u) sa st sb su s))
      (simp append_assoc (rw (p, q) at e))

  pub label-zero : (a t : List ℕ) → Hashable (length a + 1) → Hashable (length t) → length a % 16 ≢ 0
      → ghash h (auth_blocks a t) ≢ ghash h (auth_blocks (a ++ (0 ∷ [])) t)
  label-zero a t sa st n =
      let l : length (a ++ (0 ∷ [])) ≡ length a + 1 = length-append a (0 ∷ []) in
      lengths-told a t (a ++ (0 ∷ [])) t (sym (blocks-zero a n)) refl (omega arith) st (omega arith) st (λ d. omega (arith, d.0))

  pub text-zero : (a t : List ℕ) → Hashable (length a) → Hashable (length t + 1) → length t % 16 ≢ 0
      → ghash h (auth_blocks a t) ≢ ghash h (auth_blocks a (t ++ (0 ∷ [])))
  text-zero a t sa st n =
      let l : length (t ++ (0 ∷ [])) ≡ length t + 1 = length-append t (0 ∷ []) in
      lengths-told a t a (t ++ (0 ∷ [])) refl (sym (blocks-zero t n)) sa (omega arith) sa (omega arith) (λ d. omega (arith, d.1))
