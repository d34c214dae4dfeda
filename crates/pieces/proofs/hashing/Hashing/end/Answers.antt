-- `pieces::hashing::Hashing::end` meets its contract: what is held is one block or none, and the length block is behind it.
use Rattle.pieces.proofs.Names.{absorbed_both, hash_end}
use Rattle.pieces.proofs.hashing.Hashing.end.Goals as goal

pub returns : goal.returns
unfolding hash_end
returns c =
    let hashed = (absorbed_both _ _ _ _ _ c.absorb_all-all.ensures c.absorb_lengths.ensures).hash in
    rw (c.bytes_of.ensures, hashed, c.ghash.ensures.h_value, c.ghash.ensures.y_value)
