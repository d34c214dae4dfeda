-- Each return is the tests that led to it.
use Rattle.ranges.proofs.Names.{eq-eqb, is_piece, le-leb, lt-leb, ne_eqb, rules}
use Rattle.ranges.proofs.plan.is_piece.Goals as goal

pub returns-then-last : goal.returns-then-last
unfolding is_piece
returns-then-last c = search (rules, eq-eqb, ne_eqb, le-leb, c.if-last.true)

pub returns-else-last : goal.returns-else-last
unfolding is_piece
returns-else-last c = search (rules, eq-eqb, ne_eqb, le-leb, c.if-last.false)

pub returns-else-length-left : goal.returns-else-length-left
unfolding is_piece
returns-else-length-left c = search (rules, eq-eqb, ne_eqb, le-leb, lt-leb)
