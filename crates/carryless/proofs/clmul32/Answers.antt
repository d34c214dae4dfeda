-- The four sums have their bits at the four places that are kept of them (`by_quarters`).
use Rattle.std.proofs.Common.{rules}
use Rattle.carryless.proofs.Words.{by_quarters}
use Rattle.carryless.proofs.clmul32.Goals as goal

pub returns : goal.returns
returns c = search (rules, by_quarters)
