-- H is an element of the field, and it is 0 exactly where the cipher takes the block of zeros to itself.
use Rattle.gcm.proofs.Names.{List, ◌<◌, ◌^◌, ◌∙◌, ◌≡◌, ap, below-replicate, encrypt_block, encrypt_block-bytes, hash_key}
use Rattle.gcm.proofs.Names.{length-encrypt_block, lit<, number_of, number_of-lt, number_of-same, refl, replicate, sym, ℕ}

spells_zero : number_of (replicate 16 0) ≡ 0
unfolding number_of
spells_zero = refl

module _ (rk : List ℕ) where
  pub hash_key-lt : hash_key rk < 2 ^ 128
  unfolding hash_key
  hash_key-lt =
      rw (length-encrypt_block rk (replicate 16 0))
      at (number_of-lt (encrypt_block rk (replicate 16 0)) (encrypt_block-bytes rk (replicate 16 0)))

  pub hash_key-zero : encrypt_block rk (replicate 16 0) ≡ replicate 16 0 → hash_key rk ≡ 0
  unfolding hash_key
  hash_key-zero e = ap number_of e ∙ spells_zero

  pub hash_key_tells : hash_key rk ≡ 0 → encrypt_block rk (replicate 16 0) ≡ replicate 16 0
  unfolding hash_key
  hash_key_tells e =
      number_of-same (encrypt_block rk (replicate 16 0)) (replicate 16 0) (length-encrypt_block rk (replicate 16 0))
      (encrypt_block-bytes rk (replicate 16 0)) (below-replicate 256 16 0 (lit< tt)) (e ∙ sym spells_zero)
