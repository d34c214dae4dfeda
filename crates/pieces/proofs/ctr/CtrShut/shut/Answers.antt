-- `pieces::ctr::Ctr::shut` meets its contract: a default flow is zeros.
use Rattle.pieces.specs.States.{ctr_shut}
use Rattle.pieces.proofs.Fitting.{flow_zeros}
use Rattle.pieces.proofs.ctr.CtrShut.shut.Goals as goal

pub returns : goal.returns
unfolding ctr_shut
returns c = rw (flow_zeros c.default.result c.default.ensures)
