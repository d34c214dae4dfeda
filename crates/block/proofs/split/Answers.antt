-- `block::split` meets its contract. The bytes that `to_be_bytes` takes out of the word are those that `bytes_of` lists (`library_bytes`).
use Rattle.block.proofs.Base.{◌∙◌}
use Rattle.block.proofs.Convert.{library_bytes}
use Rattle.block.proofs.split.Goals as goal

pub returns : goal.returns
returns c = c.to_be_bytes.ensures ∙ library_bytes 4 _
