-- `pieces::opens::Opens::piece` meets its contract: what the checks refuse leaves the state, and otherwise the piece is hashed.
use Rattle.pieces.proofs.Names.{sym}
use Rattle.pieces.proofs.Passing.{sum_fits, running_passed}
use Rattle.pieces.proofs.opens.Opens.piece.Goals as goal

pub overflow_add-result : goal.overflow_add-result
overflow_add-result c = sum_fits (running_passed _ _ _ _ (sym c.in_default.ensures))
