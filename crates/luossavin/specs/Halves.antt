-- The exported calls on hashes: what each one gives. A field element is the big-endian number of its 16 bytes, in two halves of 64 bits,
-- and every value is one.
use Rattle.std.specs.Prelude.{ℕ, ◌/◌, ◌%◌, ◌^◌, List}
use Rattle.block.specs.Wide.{value}
use Rattle.block.specs.declared.U128.{U128}
use Rattle.ghash.specs.Ghash.{blocks, ghash}
use Rattle.ghash.specs.Joined.{joined}

abbrev pub hash_of : ℕ → U128
hash_of n = record { high = n / 2 ^ 64; low = n % 2 ^ 64 }

-- the hash of bytes in blocks, zeros to the last one's end, under the key h
unfoldable pub host_hash_blocks : U128 → List ℕ → U128
host_hash_blocks h bytes = hash_of (ghash (value h) (blocks bytes))

-- two hashes joined, by the second's block count
unfoldable pub host_hash_join : U128 → U128 → U128 → ℕ → U128
host_hash_join h first second count = hash_of (joined (value h) (value first) (value second) count)
