-- From the hash 0 on, the state takes in the label's blocks, the text's and the length block (`absorbed_auth`).
use Rattle.ghash.proofs.Names.{rules}
use Rattle.ghash.proofs.Absorbing.{absorbed_auth}
use Rattle.ghash.proofs.galois_hash.Goals as goal

pub returns : goal.returns
returns c = search (rules, absorbed_auth)
