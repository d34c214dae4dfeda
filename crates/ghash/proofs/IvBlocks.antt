-- What is hashed for no label and an IV of sixteen bytes: the IV, and then the number 128.
use Rattle.ghash.proofs.Names.{List, [], ◌∷◌, ◌≡◌, auth_blocks, bytes_of, length, length_block, number_of, refl, ℕ}
use Rattle.ghash.proofs.Blocks.{blocks-nil, blocks_full}

length_block-iv : length_block 0 16 ≡ 128
unfolding length_block number_of bytes_of
length_block-iv = refl

pub iv-blocks : (iv : List ℕ) → length iv ≡ 16 → auth_blocks [] iv ≡ number_of iv ∷ 128 ∷ []
unfolding auth_blocks
iv-blocks iv e = rw (blocks-nil, blocks_full iv e, e, length_block-iv)
