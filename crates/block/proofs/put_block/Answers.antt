-- `block::put_block` meets its contract. Four words that are stored one after the other, and then what stood behind them (`block-stored`).
use Rattle.block.proofs.Stores.{block-stored}
use Rattle.block.proofs.put_block.Goals as goal

pub returns : goal.returns
returns c = block-stored _ c.args.out.now _ _ _ _ c.put_word.ensures c.put_word-2.ensures c.put_word-3.ensures c.put_word-4.ensures
