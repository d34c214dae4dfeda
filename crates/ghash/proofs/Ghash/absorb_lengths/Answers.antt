-- A length that can be hashed fits 64 bits when it is counted in bits, so the two halves are the length block (`length_block-whole`).
use Rattle.ghash.proofs.Names.{rules}
use Rattle.ghash.proofs.Absorbing.{absorbed_same}
use Rattle.ghash.proofs.Lengths.{length_block-whole}
use Rattle.ghash.proofs.Ghash.absorb_lengths.Goals as goal

pub returns : goal.returns
returns c = search (rules, absorbed_same, length_block-whole)
