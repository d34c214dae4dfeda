-- The three products, the sums of their halves put in between, are one (`join-sums`).
use Rattle.block.proofs.Base.{rules}
use Rattle.carryless.proofs.Joins.{join-sums}
use Rattle.carryless.proofs.joined128.Goals as goal

pub returns : goal.returns
returns c = search (rules, join-sums)
