-- `lanes::spread` meets its contract: one times all ones has every bit, zero times them has none (`spread-bit`).
use Rattle.lanes.proofs.Masks.{spread-bit}
use Rattle.lanes.proofs.spread.Goals as goal

pub returns : goal.returns
returns c = spread-bit _ _
