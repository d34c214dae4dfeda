-- `pieces::opens::same_tag` meets its contract: it compares the tag with mask and hash xored.
use Rattle.pieces.proofs.Names.{◌∙◌, length-words, rules, unwords-xors, words}
use Rattle.pieces.proofs.Fitting.{Sixteen, spelt}
use Rattle.pieces.proofs.opens.same_tag.Goals as goal

pub returns : goal.returns
returns c =
    let mask = c.args.mask in
    let hash = c.args.hash in
    let mask_is : Sixteen mask = (search rules, λ i. search rules) in
    let hash_is : Sixteen hash = (search rules, λ i. search rules) in
    c.is_tag.ensures ∙ rw (c.block_xor-expected.ensures, c.split_block.ensures, c.split_block-2.ensures)
    (rw (unwords-xors (words mask) (words hash) (length-words mask) (length-words hash), spelt mask mask_is, spelt hash hash_is))
