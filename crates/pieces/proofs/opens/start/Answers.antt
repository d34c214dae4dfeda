-- `pieces::opens::start` meets its contract: what the checks refuse is refused, and otherwise the label's hash and the cipher of J0
-- are `tagging::begin`'s.
use Rattle.pieces.proofs.Names.{◌∙◌, iv_twelve_or_sixteen, sym}
use Rattle.pieces.proofs.Passing.{starting_passed}
use Rattle.pieces.proofs.opens.start.Goals as goal

pub begin-begun-requires : goal.begin-begun-requires
begin-begun-requires c =
    iv_twelve_or_sixteen _ (starting_passed _ _ _ _ _ (sym c.gcm_start-checked.ensures ∙ c.in_default.is)).taken
