-- `stream::few::block_at` meets its contract: the words at a place are those of the sixteen bytes there.
use Rattle.stream.proofs.Names.{◌∙◌, ap, arith, below-drop, below_each, length-drop, tail_is, unwords}
use Rattle.stream.proofs.Names.{unwords-front}
use Rattle.stream.proofs.few.block_at.Goals as goal

pub returns : goal.returns
returns c =
    let a = c.args in
    let s = a.s.now in
    let bytes = below-drop 256 a.at s (below_each 256 s (λ i. (c.type_inv.s i).fits)) in
    ap unwords c.split_block.ensures ∙ rw (tail_is s a.at) (unwords-front _ (rw length-drop (omega arith)) bytes)
