-- `cipher_mode::work::iv_block` meets its contract: the words of sixteen bytes spell them.
use Rattle.cipher_mode.proofs.Ends.{spelled}
use Rattle.cipher_mode.proofs.work.iv_block.Goals as goal

pub returns : goal.returns
returns c = spelled (c.args.iv.now) _ c.requires (λ i. (c.type_inv.iv i).fits) c.split_block.ensures
