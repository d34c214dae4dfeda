-- `counter::jump` meets its contract. `to_u128` ensures the number that the block spells, `u128_add` so many more, and `from_u128` the
-- block that spells that, which is Ctr's counter so many blocks on (`ctr-jump-words`).
use Rattle.block.proofs.Base.{rules}
use Rattle.counter.proofs.Steps.{ctr-jump-words}
use Rattle.counter.proofs.jump.Goals as goal

pub returns : goal.returns
returns c = search (rules, ctr-jump-words)
