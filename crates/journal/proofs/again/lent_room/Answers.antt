-- The smaller of the two.
use Rattle.journal.proofs.Names.{arith, lent_room}
use Rattle.std.proofs.lemmas.Grind.{common_steps}
use Rattle.journal.proofs.again.lent_room.Goals as goal

pub returns : goal.returns
unfolding lent_room
returns c = grind (arith, common_steps)
