-- Both are what the contract says, by definition.
use Rattle.block.proofs.Base.{rules}
use Rattle.lanes.specs.Swaps.{first_swapped, second_swapped}
use Rattle.lanes.proofs.swapped.Goals as goal

pub returns-clause-first : goal.returns-clause-first
unfolding first_swapped
returns-clause-first c = search rules

pub returns-clause-second : goal.returns-clause-second
unfolding second_swapped
returns-clause-second c = search rules
