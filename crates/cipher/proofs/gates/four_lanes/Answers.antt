-- The mask is a one in each of the four lanes (`masked_lanes`).
use Rattle.cipher.proofs.Names.{and_le_r}
use Rattle.cipher.proofs.FourLanes.{masked_lanes}
use Rattle.cipher.proofs.gates.four_lanes.Goals as goal

pub returns : goal.returns
returns c = (masked_lanes c.args.w, and_le_r c.args.w 0x01010101)
