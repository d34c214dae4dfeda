-- The rows that are loaded are the words of the blocks, those that are stored their ciphers.
use Rattle.sliced.proofs.Names.{arith, encrypt_block}
use Rattle.sliced.proofs.encrypt_xored.Goals as goal

pub returns : goal.returns
unfolding encrypt_block
returns c = c.store_xored.ensures _ (c.encrypt.ensures _ _ (omega arith) c.load.ensures)
