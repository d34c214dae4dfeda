-- `pieces::seal::Seal::shut` meets its contract: a default flow and a default hash are zeros.
use Rattle.pieces.specs.States.{seal_shut}
use Rattle.pieces.proofs.Fitting.{flow_zeros, hashing_zeros}
use Rattle.pieces.proofs.seal.SealShut.shut.Goals as goal

pub returns : goal.returns
unfolding seal_shut
returns c = rw (flow_zeros c.default.result c.default.ensures, hashing_zeros c.default-2.result c.default-2.ensures)
