-- The count is how many blocks there are (`length-blocks`).
use Rattle.ghash.proofs.Blocks.{length-blocks}
use Rattle.ghash.proofs.halves.Half.of.Goals as goal

pub returns : goal.returns
returns c = record { hash = c.hash_blocks.ensures; power = rw (length-blocks _, ← c.block_count.ensures) c.power.ensures }
