-- Each way out is the definition, by the tests that led there.
use Rattle.journal.proofs.Names.{past_limit}
use Rattle.std.proofs.lemmas.Grind.{common_steps}
use Rattle.journal.proofs.Names.{arith}
use Rattle.journal.proofs.records.Call.too_long.Goals as goal

pub returns-then-self-gt-PART_LIMIT-3 : goal.returns-then-self-gt-PART_LIMIT-3
unfolding past_limit
returns-then-self-gt-PART_LIMIT-3 c = grind (arith, common_steps)

pub returns-else-self-gt-PART_LIMIT-3 : goal.returns-else-self-gt-PART_LIMIT-3
unfolding past_limit
returns-else-self-gt-PART_LIMIT-3 c = grind (arith, common_steps)
