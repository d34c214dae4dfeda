-- `counter::gcm_block_add_one` meets its contract. The last word is below 2^32, so it is the number that its four bytes
-- spell, and to count it up is to count these bytes up and keep the twelve before them (`gcm-jump-words`). It is 0 exactly where
-- they came round (`gcm-words_pass`).
use Rattle.block.proofs.Base.{refl, rules, get_or, w32, Fits}
use Rattle.counter.specs.Counter.{gcm_next, gcm_jump}
use Rattle.counter.proofs.Steps.{gcm-jump-words, gcm-words_pass}
use Rattle.counter.proofs.gcm_block_add_one.Goals as goal

pub returns-clause-counter_value : goal.returns-clause-counter_value
unfolding gcm_next gcm_jump
returns-clause-counter_value c =
    let h : Fits w32 (get_or c.args.a 3 0) = search rules in
    gcm-jump-words _ _ 1 h.fits refl

pub returns-clause-came_round_value : goal.returns-clause-came_round_value
returns-clause-came_round_value c =
    let h : Fits w32 (get_or c.args.a 3 0) = search rules in
    gcm-words_pass _ _ h.fits refl
