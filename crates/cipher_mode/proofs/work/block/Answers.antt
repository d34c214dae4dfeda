-- `cipher_mode::work::block` meets its contract: the block's words go through the cipher under the direction's round keys (`block_by`).
use Rattle.cipher_mode.proofs.Ends.{block_by}
use Rattle.cipher_mode.proofs.work.block.Goals as goal

pub returns : goal.returns
returns c =
    rw (c.encrypt.ensures, c.keys_for-keys.ensures, c.split_block.ensures, block_by) at c.put_block.ensures
