-- `counter::block_add_one` meets its contract. `to_u128` ensures the number that the block spells, `u128_add` one more,
-- and `from_u128` the block that spells that, which is Ctr's next counter (`ctr-jump-words`). It is 0 exactly where it came round
-- (`ctr-words_pass`).
use Rattle.block.proofs.Base.{rules}
use Rattle.counter.specs.Counter.{ctr_next, ctr_jump}
use Rattle.counter.proofs.Steps.{ctr-jump-words, ctr-words_pass}
use Rattle.counter.proofs.block_add_one.Goals as goal

pub returns-clause-counter_value : goal.returns-clause-counter_value
unfolding ctr_next ctr_jump
returns-clause-counter_value c = search (rules, ctr-jump-words)

pub returns-clause-came_round_value : goal.returns-clause-came_round_value
returns-clause-came_round_value c = search (rules, ctr-words_pass)
