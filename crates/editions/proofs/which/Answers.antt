-- A bad list ends it, then what a check refused, and then the search gives the verdict.
use Rattle.editions.specs.Which.{which}
use Rattle.editions.proofs.which.Goals as goal

pub returns-in_default : goal.returns-in_default
unfolding which
returns-in_default c = rw c.in_default.ensures

pub returns : goal.returns
unfolding which
returns c =
    let listed = c.in-Some.ensures in
    rw (listed.0, c.ask.ensures, listed.1, listed.2, c.number_in.ensures)
