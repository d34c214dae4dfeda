-- `pieces::hashing::begin` meets its contract: before the first byte nothing is held (`held_within`).
use Rattle.pieces.proofs.Names.{[], arith, bytes_of-bytes, filled_up, hash_of, length-bytes_of}
use Rattle.pieces.proofs.HashOn.{held_within}
use Rattle.pieces.proofs.hashing.begin.Goals as goal

pub returns : goal.returns
unfolding hash_of filled_up
returns c =
    let new = c.new.ensures in
    rw (c.bytes_of.ensures, c.bytes_of-2.ensures, c.absorb_all-labelled.ensures.hash, new.0, new.1)
    (held_within _ _ [] (omega arith) (length-bytes_of 16 _) (bytes_of-bytes 16 _))
