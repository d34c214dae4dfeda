-- H to the count is what the first hash counts for.
use Rattle.ghash.proofs.Names.{◌∙◌, joined}
use Rattle.ghash.proofs.halves.join.Goals as goal

pub returns : goal.returns
unfolding joined
returns c = c.after.ensures ∙ rw c.power.ensures
