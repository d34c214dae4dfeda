-- `pieces::hashing::bytes_of` meets its contract: the words of a number's sixteen bytes spell these bytes.
use Rattle.pieces.proofs.Names.{◌∙◌, unwords-number}
use Rattle.pieces.proofs.hashing.bytes_of.Goals as goal

pub returns : goal.returns
returns c = c.combine_block.ensures ∙ unwords-number _ _ c.from_u128.ensures
