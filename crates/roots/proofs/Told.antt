-- What is hashed tells label and ciphertext, also where blocks of zeros stand in front: the last block tells both lengths, these
-- tell how many zeros there are and where each part ends, and the blocks of a part tell its bytes.
use Rattle.block.proofs.Base.{◌-◌, ◌≤◌, ℕ, ◌∙◌, ◌≡◌, ap, ap₂, refl, sym, List, [], ◌++◌, ◌∷◌, append_assoc, arith, lit<, drop, length}
use Rattle.block.proofs.Base.{length-append, length-replicate, replicate, take, drop_at, take_at}
use Rattle.block.proofs.Entries.{below-append, below-replicate}
use Rattle.ghash.specs.Ghash.{blocks, auth_blocks}
use Rattle.ghash.proofs.Blocks.{length-blocks}
use Rattle.ghash.proofs.Lengths.{length_block-lt, length_block-same}
use Rattle.roots.specs.Confused.{Pair, Sound, hashed, hashed_count}
use Rattle.roots.proofs.Horner.{Elements}
use Rattle.roots.proofs.BlocksTell.{blocks_elements, blocks-same}

-- lists that are the same have the same parts, where their fronts have one length
fronts_same : (p s q t : List ℕ) → length p ≡ length q → p ++ s ≡ q ++ t → p ≡ q
fronts_same p s q t l e = sym (take_at p s (length p) refl) ∙ ap (take (length p)) e ∙ take_at q t (length p) (sym l)

ends_same : (p s q t : List ℕ) → length p ≡ length q → p ++ s ≡ q ++ t → s ≡ t
ends_same p s q t l e = sym (drop_at p s (length p) refl) ∙ ap (drop (length p)) e ∙ drop_at q t (length p) (sym l)

lasts_same : (p q : List ℕ) (x y : ℕ) → p ++ (x ∷ []) ≡ q ++ (y ∷ []) → x ≡ y
lasts_same p q x y e =
    let long : length p ≡ length q = omega (arith, length-append p (x ∷ []), length-append q (y ∷ []), ap length e) in
    cc (ends_same p (x ∷ []) q (y ∷ []) long e)

-- what is hashed of a pair, with blocks of zeros in front, to n blocks in all
unfoldable pub filled : ℕ → Pair → List ℕ
filled n p = replicate (n - hashed_count p) 0 ++ hashed p

hashed_length : (p : Pair) → length (hashed p) ≡ hashed_count p
unfolding auth_blocks
hashed_length p = simp (length-append, length-blocks) (omega arith)

hashed_elements : (p : Pair) → Sound p → Elements (hashed p)
unfolding auth_blocks
hashed_elements p s =
    below-append _ (blocks p.label) _ (blocks_elements p.label s.label-bytes)
    (below-append _ (blocks p.ciphertext) _ (blocks_elements p.ciphertext s.ciphertext-bytes)
    (length_block-lt (length p.label) (length p.ciphertext), tt))

pub filled-length : (n : ℕ) (p : Pair) → hashed_count p ≤ n → length (filled n p) ≡ n
unfolding filled
filled-length n p l = simp (length-append, length-replicate, hashed_length p) (omega arith)

pub filled_elements : (n : ℕ) (p : Pair) → Sound p → Elements (filled n p)
unfolding filled
filled_elements n p s =
    let k = n - hashed_count p in
    below-append _ (replicate k 0) (hashed p) (below-replicate _ k 0 (lit< tt)) (hashed_elements p s)

module _ (n : ℕ) (p q : Pair) (sp : Sound p) (sq : Sound q) (same : filled n p ≡ filled n q) where
  lengths : (length p.label ≡ length q.label) × (length p.ciphertext ≡ length q.ciphertext)
  unfolding filled auth_blocks
  lengths =
      let before : Pair → List ℕ = λ r. replicate (n - hashed_count r) 0 ++ (blocks r.label ++ blocks r.ciphertext) in
      length_block-same _ _ _ _ sp.label-length sp.ciphertext-length sq.label-length sq.ciphertext-length
      (lasts_same (before p) (before q) _ _ (simp append_assoc same))

  hashed-same : hashed p ≡ hashed q
  unfolding filled
  hashed-same =
      let zeros : List ℕ = replicate (n - hashed_count q) 0 in
      ends_same zeros (hashed p) zeros (hashed q) refl (rw (lengths.0, lengths.1) at same)

  pub told : p ≡ q
  unfolding auth_blocks
  told =
      let la : length (blocks p.label) ≡ length (blocks q.label) = simp length-blocks (rw lengths.0) in
      let lt : length (blocks p.ciphertext) ≡ length (blocks q.ciphertext) = simp length-blocks (rw lengths.1) in
      let labels = fronts_same (blocks p.label) _ (blocks q.label) _ la hashed-same in
      let rests = ends_same (blocks p.label) _ (blocks q.label) _ la hashed-same in
      let texts = fronts_same (blocks p.ciphertext) _ (blocks q.ciphertext) _ lt rests in
      ap₂ (λ (a t : List ℕ). record { label = a; ciphertext = t })
      (blocks-same p.label q.label lengths.0 sp.label-bytes sq.label-bytes labels)
      (blocks-same p.ciphertext q.ciphertext lengths.1 sp.ciphertext-bytes sq.ciphertext-bytes texts)
