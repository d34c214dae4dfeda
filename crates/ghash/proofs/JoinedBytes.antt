-- Two halves of bytes, of which the first is whole blocks: their hashes joined are the hash of both. So a label's hash, joined to what is
-- kept of a text's blocks, is the hash of label and text. Either half may be empty.
use Rattle.ghash.proofs.Names.{Absorbed, Element, Ghash, Half, HalfOf, List, [], ◌*◌, ◌++◌, ◌∙◌, ◌∷◌, ◌≡◌, ◌⊕◌, append_assoc}
use Rattle.ghash.proofs.Names.{auth_blocks, block_count, blocks, ghash, gmul, joined, length, length_block, sym, value, ℕ}
use Rattle.ghash.proofs.Blocks.{length-blocks, blocks-append}
use Rattle.ghash.proofs.Join.{hash-append, ghash-join}

module _ (h : ℕ) (element : Element h) where
  -- over lists of blocks
  pub joins : (xs bs : List ℕ) → joined h (ghash h xs) (ghash h bs) (length bs) ≡ ghash h (xs ++ bs)
  unfolding joined
  joins xs bs = sym (ghash-join h element xs bs)

  -- over bytes, of which the first k blocks are the first half
  pub joins_bytes : (k : ℕ) (a b : List ℕ) → length a ≡ 16 * k
      → joined h (ghash h (blocks a)) (ghash h (blocks b)) (block_count (length b)) ≡ ghash h (blocks (a ++ b))
  joins_bytes k a b whole = rw (← length-blocks b, blocks-append k a b whole) (joins (blocks a) (blocks b))

  -- what is kept of blocks joins any hash before them to theirs
  half_joins : (xs bs : List ℕ) (r : Half) → HalfOf h bs r → gmul (ghash h xs) (value r.power) ⊕ value r.hash ≡ ghash h (xs ++ bs)
  half_joins xs bs r k = rw (k.power, k.hash) (sym (ghash-join h element xs bs))

-- a label's hash, what is kept of a text, and the length block
pub half_auth : (s r : Ghash) (k : Half) (label text : List ℕ) (first : ℕ) → Element (value s.h) → HalfOf (value s.h) (blocks text) k
    → first ≡ ghash (value s.h) (blocks label) → value s.y ≡ gmul first (value k.power) ⊕ value k.hash
    → Absorbed s (length_block (length label) (length text) ∷ []) r → value r.y ≡ ghash (value s.h) (auth_blocks label text)
unfolding auth_blocks
half_auth s r k label text first element half ef ey a =
    a.hash
    ∙ rw (ey, ef, half_joins _ element (blocks label) (blocks text) k half, ← hash-append, append_assoc (blocks label))
