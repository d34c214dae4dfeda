-- The product is doubled, and twice 64 bits of it fall out (`reduce_law`).
use Rattle.field.proofs.Names.{rules}
use Rattle.field.proofs.Reduction.{reduce_law}
use Rattle.field.proofs.reduce.Goals as goal

pub returns : goal.returns
returns c = search (rules, reduce_law)
