use Rattle.block.proofs.Base.{rules}
use Rattle.lanes.proofs.Masks.{blank_room}
use Rattle.rows.proofs.Batch.new.Goals as goal

pub returns : goal.returns
returns c = search (rules, blank_room)
