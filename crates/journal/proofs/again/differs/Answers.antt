-- Each way out is the definition, by the tests that led there.
use Rattle.journal.proofs.Names.{arith, differs_from}
use Rattle.std.proofs.lemmas.Grind.{common_steps}
use Rattle.journal.proofs.again.differs.Goals as goal

pub returns-then-call-answered-2 : goal.returns-then-call-answered-2
unfolding differs_from
returns-then-call-answered-2 c = grind (arith, common_steps)

pub returns-else-call-answered-2 : goal.returns-else-call-answered-2
unfolding differs_from
returns-else-call-answered-2 c = grind (arith, common_steps)
