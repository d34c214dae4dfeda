-- GCM's hash in pieces. Of the block that is begun only the bytes before the place p count.
use Rattle.std.specs.Prelude.{ℕ, ◌*◌, ◌/◌, List, [], ◌∷◌, ◌++◌, length, take, drop, replicate}
use Rattle.block.specs.BigEndian.{number_of, bytes_of}
use Rattle.ghash.specs.Ghash.{blocks, length_block, hash_from, ghash}
use Rattle.pieces.specs.declared.hashing.Hashing.{Hashing}

-- the full blocks of a list of bytes, and the bytes behind them
abbrev pub full_part : List ℕ → List ℕ
full_part c = take (16 * (length c / 16)) c

abbrev pub begun_part : List ℕ → List ℕ
begun_part c = drop (16 * (length c / 16)) c

-- the first sixteen bytes, zeros where the list ends
unfoldable pub filled_up : List ℕ → List ℕ
filled_up c = take 16 (c ++ replicate 16 0)

-- after the text c, from the hash y on under the key h: the hash of its full blocks, and what is begun
unfoldable pub hash_after : List ℕ → List ℕ → List ℕ → Hashing
hash_after h y c = record {
  h = h;
  y = bytes_of 16 (hash_from (number_of h) (number_of y) (blocks (full_part c)));
  held = filled_up (begun_part c);
}

-- after the label and the text c, from the start
unfoldable pub hash_of : ℕ → List ℕ → List ℕ → Hashing
hash_of h label c = hash_after (bytes_of 16 h) (bytes_of 16 (ghash h (blocks label))) c

-- after the text e, where p bytes of a block were held
unfoldable pub hash_next : Hashing → ℕ → List ℕ → Hashing
hash_next g p e = hash_after g.h g.y (take p g.held ++ e)

-- at the end of a text, where p bytes of a block are held: that block and then the length block, for these two lengths
unfoldable pub hash_end : Hashing → ℕ → ℕ → ℕ → List ℕ
hash_end g p label text =
    bytes_of 16 (hash_from (number_of g.h) (number_of g.y) (blocks (take p g.held) ++ (length_block label text ∷ [])))
