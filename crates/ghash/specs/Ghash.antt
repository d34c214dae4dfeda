-- GCM's hash, from NIST SP 800-38D, sections 6.4 and 7.1, over blocks as the numbers that they spell.
use Rattle.std.specs.Prelude.{List, [], ◌∷◌, ◌++◌, ℕ, zero, suc, ◌+◌, ◌*◌, ◌/◌, ◌^◌, ◌<◌, length, take, drop, replicate}
use Rattle.block.specs.BigEndian.{number_of, bytes_of}
use Rattle.block.specs.Xor.{◌⊕◌}
use Rattle.field.specs.Field.{gmul}

-- the block at the front of a list of bytes, zeros where the list ends
unfoldable pub block_of : List ℕ → ℕ
block_of bs = number_of (take 16 (bs ++ replicate 16 0))

-- k blocks, one after the other
unfoldable pub blocks_from : ℕ → List ℕ → List ℕ
blocks_from zero bs = []
blocks_from (suc k) bs = block_of bs ∷ blocks_from k (drop 16 bs)

-- how many blocks n bytes are, the last one of which may be short
abbrev pub block_count : ℕ → ℕ
block_count n = (n + 15) / 16

-- the blocks of a list of bytes, zeros to the last one's end
unfoldable pub blocks : List ℕ → List ℕ
blocks bs = blocks_from (block_count (length bs)) bs

-- the lengths that can be hashed: in bits they fit 8 bytes, as SP 800-38D, section 5.2.1.1, asks of labels and IVs
abbrev pub Hashable : ℕ → Type 0
Hashable n = n < 2 ^ 61

-- two lengths in bits, 8 bytes each
unfoldable pub length_block : ℕ → ℕ → ℕ
length_block label text = number_of (bytes_of 8 (8 * label) ++ bytes_of 8 (8 * text))

-- what is hashed for a label and a text
unfoldable pub auth_blocks : List ℕ → List ℕ → List ℕ
auth_blocks label text = blocks label ++ (blocks text ++ (length_block (length label) (length text) ∷ []))

-- from y on, each block makes the hash (hash xor block) times h
unfoldable pub hash_from : ℕ → ℕ → List ℕ → ℕ
hash_from h y [] = y
hash_from h y (b ∷ bs) = hash_from h (gmul (y ⊕ b) h) bs

-- the hash of a list of blocks
abbrev pub ghash : ℕ → List ℕ → ℕ
ghash h bs = hash_from h 0 bs
