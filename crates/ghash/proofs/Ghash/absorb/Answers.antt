-- The words that are loaded spell the number of the block at the front of `rest`, filled up with zeros (`block_of-words`).
use Rattle.ghash.proofs.Names.{◌∙◌, below_each}
use Rattle.ghash.proofs.Absorbing.{absorbed_same}
use Rattle.ghash.proofs.Blocks.{block_of-words}
use Rattle.ghash.proofs.Ghash.absorb.Goals as goal

pub returns : goal.returns
returns c =
    let bytes = below_each 256 c.args.rest.now (λ i. (c.type_inv.rest i).fits) in
    absorbed_same c.step.ensures (c.to_u128.ensures ∙ rw c.load_block.ensures (block_of-words _ bytes))
