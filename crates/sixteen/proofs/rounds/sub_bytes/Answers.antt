-- The S-box in every lane of the transposed bytes.
use Rattle.sixteen.proofs.Names.{rules}
use Rattle.sixteen.proofs.Bytes.{all_subbed}
use Rattle.sixteen.proofs.rounds.sub_bytes.Goals as goal

pub returns : goal.returns
returns c = search (rules, all_subbed)
