-- What it means that a hash state took in some blocks.
use Rattle.std.specs.Prelude.{◌≡◌, List, ℕ}
use Rattle.block.specs.Wide.{value}
use Rattle.ghash.specs.declared.Ghash.{Ghash}
use Rattle.ghash.specs.Ghash.{hash_from}

-- r is s after the blocks bs
pub record Absorbed (s : Ghash) (bs : List ℕ) (r : Ghash) : Type 0 where
  pub key : r.h ≡ s.h
  pub hash : value r.y ≡ hash_from (value s.h) (value s.y) bs
