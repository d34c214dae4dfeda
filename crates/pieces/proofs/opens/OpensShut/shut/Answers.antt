-- `pieces::opens::Opens::shut` meets its contract: a default hash is zeros.
use Rattle.pieces.specs.States.{opens_shut}
use Rattle.pieces.proofs.Fitting.{hashing_zeros}
use Rattle.pieces.proofs.opens.OpensShut.shut.Goals as goal

pub returns : goal.returns
unfolding opens_shut
returns c = rw (hashing_zeros c.default.result c.default.ensures)
