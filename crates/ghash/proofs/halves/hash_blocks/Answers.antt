-- From the hash 0 on, the state takes in all blocks (`hash-of`).
use Rattle.ghash.proofs.Names.{rules}
use Rattle.ghash.proofs.Absorbing.{hash-of}
use Rattle.ghash.proofs.halves.hash_blocks.Goals as goal

pub returns : goal.returns
returns c = search (rules, hash-of)
