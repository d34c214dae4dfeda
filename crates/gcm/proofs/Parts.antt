-- The lengths of text, tag and sealed message, and the two parts of a message and of what was sealed.
use Rattle.gcm.proofs.Names.{Gctr, List, ◌++◌, ◌+◌, ◌-◌, ◌∙◌, ◌≡◌, ap₂, arith, auth_blocks, bytes_of, drop_at, encrypt_block, gcm_next}
use Rattle.gcm.proofs.Names.{ghash, length, length-append, length-bytes_of, length-encrypt_block, length-stream, length-xors, sealed}
use Rattle.gcm.proofs.Names.{tag_of, tag_part, take_at, text_of, text_part, ℕ}

pub length-text : (rk j d : List ℕ) → length (text_of rk j d) ≡ length d
unfolding text_of
length-text rk j d = length-stream Gctr rk (gcm_next j) d

pub length-tag : (rk : List ℕ) (h : ℕ) (j label text : List ℕ) → length (tag_of rk h j label text) ≡ 16
unfolding tag_of
length-tag rk h j label text =
    let n = length-encrypt_block rk j in
    let m = length-bytes_of 16 (ghash h (auth_blocks label text)) in
    length-xors (encrypt_block rk j) (bytes_of 16 (ghash h (auth_blocks label text))) (omega arith) ∙ n

-- the two parts of a message made of a ciphertext and a tag
module _ (c t : List ℕ) (n : length t ≡ 16) where
  seam : length c ≡ length (c ++ t) - 16
  seam = omega (arith, length-append c t)

  pub parts-text : text_part (c ++ t) ≡ c
  parts-text = take_at c t (length (c ++ t) - 16) seam

  pub parts-tag : tag_part (c ++ t) ≡ t
  parts-tag = drop_at c t (length (c ++ t) - 16) seam

module _ (rk : List ℕ) (h : ℕ) (j label d : List ℕ) where
  pub length-sealed : length (sealed rk h j label d) ≡ length d + 16
  unfolding sealed
  length-sealed =
      length-append (text_of rk j d) (tag_of rk h j label (text_of rk j d))
      ∙ ap₂ ◌+◌ (length-text rk j d) (length-tag rk h j label (text_of rk j d))

  pub sealed-text : text_part (sealed rk h j label d) ≡ text_of rk j d
  unfolding sealed
  sealed-text = parts-text (text_of rk j d) (tag_of rk h j label (text_of rk j d)) (length-tag rk h j label (text_of rk j d))

  pub sealed-tag : tag_part (sealed rk h j label d) ≡ tag_of rk h j label (text_of rk j d)
  unfolding sealed
  sealed-tag = parts-tag (text_of rk j d) (tag_of rk h j label (text_of rk j d)) (length-tag rk h j label (text_of rk j d))
