use Rattle.sliced.proofs.Names.{blank_room, rules}
use Rattle.sliced.proofs.Planes.new.Goals as goal

pub returns : goal.returns
returns c = search (rules, blank_room)
