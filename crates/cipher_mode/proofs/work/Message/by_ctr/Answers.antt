-- `cipher_mode::work::Message::by_ctr` meets its contract: it leaves what the stream leaves, and tells of its counter what the formula says
-- of the IV.
use Rattle.block.proofs.Base.{refl}
use Rattle.cipher_mode.proofs.Ends.{told_of}
use Rattle.cipher_mode.proofs.work.Message.by_ctr.Goals as goal

pub returns : goal.returns
returns c = told_of _ _ _ _ _ (rw c.iv_block.ensures at c.ctr_came_round.ensures) c.by_stream-done.ensures refl
