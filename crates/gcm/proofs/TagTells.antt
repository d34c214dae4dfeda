-- A tag tells the hash: under one J0 equal tags come of equal hashes, and of equal hashes equal tags.
use Rattle.gcm.proofs.Names.{List, ◌++◌, ◌<◌, ◌^◌, ◌∙◌, ◌≡◌, ◌≢◌, ap, arith, auth_blocks, bytes_of, bytes_of-same, encrypt_block, false}
use Rattle.gcm.proofs.Names.{ghash, ghash-lt, length, length-bytes_of, length-encrypt_block, opens_under, same, same_equal, same_not}
use Rattle.gcm.proofs.Names.{sym, tag_of, tag_part, text_part, true, xors, xors_cancel, xors_comm, ℕ}
use Rattle.gcm.proofs.Parts.{parts-text, parts-tag}

-- what is xored with a block comes back
unmask : (p x : List ℕ) → length x ≡ 16 → length p ≡ 16 → xors (xors p x) p ≡ x
unmask p x n m = ap (λ (l : List ℕ). xors l p) (xors_comm p x) ∙ xors_cancel x p (omega arith)

module _ (rk : List ℕ) (h : ℕ) (hh : h < 2 ^ 128) (j : List ℕ) where
  tag_tells : (a c b d : List ℕ) → tag_of rk h j a c ≡ tag_of rk h j b d → ghash h (auth_blocks a c) ≡ ghash h (auth_blocks b d)
  unfolding tag_of
  tag_tells a c b d e =
      let x = ghash h (auth_blocks a c) in
      let y = ghash h (auth_blocks b d) in
      let k = encrypt_block rk j in
      bytes_of-same 16 x y (ghash-lt h hh (auth_blocks a c)) (ghash-lt h hh (auth_blocks b d))
      (sym (unmask k (bytes_of 16 x) (length-bytes_of 16 x) (length-encrypt_block rk j)) ∙ ap (λ (l : List ℕ). xors l k) e
      ∙ unmask k (bytes_of 16 y) (length-bytes_of 16 y) (length-encrypt_block rk j))

  -- where c ++ t opens under a and the hash of b and d is another, d ++ t does not open under b
  pub opens_not : (a c b d t : List ℕ) → length t ≡ 16 → ghash h (auth_blocks a c) ≢ ghash h (auth_blocks b d)
      → opens_under rk h j a (c ++ t) ≡ true → opens_under rk h j b (d ++ t) ≡ false
  unfolding opens_under
  opens_not a c b d t n ne e =
      let p = same_equal (tag_part (c ++ t)) (tag_of rk h j a (text_part (c ++ t))) e in
      let f : t ≡ tag_of rk h j a c = sym (parts-tag c t n) ∙ p ∙ ap (tag_of rk h j a) (parts-text c t n) in
      same_not (tag_part (d ++ t)) (tag_of rk h j b (text_part (d ++ t)))
      (λ q. ne (tag_tells a c b d (sym f ∙ sym (parts-tag d t n) ∙ q ∙ ap (tag_of rk h j b) (parts-text d t n))))

-- and where the hashes are equal, a message opens under both labels or under neither
pub opens-alike : (rk : List ℕ) (h : ℕ) (j a b s : List ℕ)
    → ghash h (auth_blocks a (text_part s)) ≡ ghash h (auth_blocks b (text_part s)) → opens_under rk h j a s ≡ opens_under rk h j b s
unfolding opens_under tag_of
opens-alike rk h j a b s e = ap (λ (y : ℕ). same (tag_part s) (xors (encrypt_block rk j) (bytes_of 16 y))) e
