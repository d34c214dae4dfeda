-- `pieces::ctr::Ctr::piece` meets its contract: what the checks refuse leaves output and state, and otherwise the flow runs on.
use Rattle.pieces.proofs.Names.{sym}
use Rattle.pieces.proofs.Passing.{sum_fits, writing_passed}
use Rattle.pieces.proofs.ctr.Ctr.piece.Goals as goal

pub run-flow-requires-clause-data_in_bounds : goal.run-flow-requires-clause-data_in_bounds
run-flow-requires-clause-data_in_bounds c = (writing_passed _ _ _ _ _ _ (sym c.in_default.ensures)).1

pub overflow_add-result : goal.overflow_add-result
overflow_add-result c = sum_fits (writing_passed _ _ _ _ _ _ (sym c.in_default.ensures)).0
