-- Each return is the definition, by the tests that led there.
use Rattle.shelf.proofs.Names.{eq-eqb, marked, ne_eqb}
use Rattle.shelf.proofs.records.marked.Goals as goal

pub returns-then-s-eq-CURRENT : goal.returns-then-s-eq-CURRENT
unfolding marked
returns-then-s-eq-CURRENT c = rw (eq-eqb _ _ c.if-s-eq-MARK.true, eq-eqb _ _ c.if-s-eq-CURRENT.true)

pub returns-else-s-eq-CURRENT : goal.returns-else-s-eq-CURRENT
unfolding marked
returns-else-s-eq-CURRENT c = rw (eq-eqb _ _ c.if-s-eq-MARK.true, ne_eqb _ _ c.if-s-eq-CURRENT.false)

pub returns-else-s-eq-MARK : goal.returns-else-s-eq-MARK
unfolding marked
returns-else-s-eq-MARK c = rw (ne_eqb _ _ c.if-s-eq-MARK.false)
