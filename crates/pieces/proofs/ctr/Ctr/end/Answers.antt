-- `pieces::ctr::Ctr::end` meets its contract: a state that does not run is refused, and one that runs is shut, and tells what the formula
-- says of the first counter, whose words spell it.
use Rattle.pieces.proofs.Names.{ctr_end, rules}
use Rattle.pieces.proofs.Fitting.{spelt}
use Rattle.pieces.proofs.ctr.Ctr.end.Goals as goal

pub returns : goal.returns
unfolding ctr_end
returns c =
    let is-first = spelt c.args.self.first (search rules, λ i. search rules) in
    rw (← c.in_default.ensures, c.done_round.ensures, c.ctr_came_round-came_round.ensures)
    (rw (c.split_block.ensures, is-first, c.shut.ensures, c.number.ensures))
