-- The words of a block that is filled up with zeros are those of its front (`words-filled`).
use Rattle.ghash.proofs.Names.{◌∙◌, length}
use Rattle.ghash.proofs.Blocks.{words-filled}
use Rattle.ghash.proofs.load_block.Goals as goal

pub returns : goal.returns
returns c = c.split_block-2.ensures ∙ rw c.copy_from_slice.ensures.after (words-filled c.args.rest.now (length c.args.rest.now))
