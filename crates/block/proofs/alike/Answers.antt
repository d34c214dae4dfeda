-- `block::alike` meets its contract: what `==` tests of two slices is `same` (`same_pointwise`).
use Rattle.block.proofs.Base.{◌∙◌}
use Rattle.block.proofs.Same.{same_pointwise}
use Rattle.block.proofs.alike.Goals as goal

pub returns : goal.returns
returns c = c.eq.ensures ∙ same_pointwise _ _
