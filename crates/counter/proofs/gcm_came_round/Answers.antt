-- `counter::gcm_came_round` meets its contract: the blocks are more than what is left up to all ones exactly where they and
-- the word reach 2^32 (`gcm_left`).
use Rattle.counter.proofs.Formula.{gcm_left, rounded_up}
use Rattle.block.proofs.Base.{◌∙◌}
use Rattle.counter.proofs.gcm_came_round.Goals as goal

pub returns : goal.returns
returns c = rw (← (c.div_ceil.ensures ∙ rounded_up c.args.n)) (gcm_left _ _ c.ranges.low.fits)
