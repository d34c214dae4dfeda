-- Two hashes joined, W12, and what is kept of blocks to join any hash before them to theirs.
use Rattle.std.specs.Prelude.{◌≡◌, List, ℕ, length}
use Rattle.block.specs.Wide.{value}
use Rattle.block.specs.Xor.{◌⊕◌}
use Rattle.field.specs.Field.{gmul, gpow}
use Rattle.ghash.specs.declared.halves.Half.{Half}
use Rattle.ghash.specs.Ghash.{ghash}

-- the first's hash times H to the second's block count, xored with the second's hash
unfoldable pub joined : ℕ → ℕ → ℕ → ℕ → ℕ
joined h first second count = gmul first (gpow h count) ⊕ second

-- r is what is kept of the blocks bs under h: their hash, and h to their count
pub record HalfOf (h : ℕ) (bs : List ℕ) (r : Half) : Type 0 where
  pub hash : value r.hash ≡ ghash h bs
  pub power : value r.power ≡ gpow h (length bs)
