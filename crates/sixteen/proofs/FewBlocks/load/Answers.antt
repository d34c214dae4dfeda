-- A block is the sixteen bytes at the front of what is left.
use Rattle.sixteen.proofs.Names.{◌*◌, ◌-◌, ◌≤◌, ◌∙◌, ap, arith, block_at, drop, length, length-drop, sym, take_all, words, words_take}
use Rattle.sixteen.proofs.FewBlocks.load.Goals as goal

pub loop-i-preserved : goal.loop-i-preserved
loop-i-preserved c =
    let l = c.loop-i in
    let src = c.args.src.now in
    let d = drop (16 * l.i) src in
    let k : length d ≤ length src - 16 * l.i = omega (arith, length-drop (16 * l.i) src) in
    let e = c.split_block.ensures ∙ ap words (take_all (length src - 16 * l.i) d k) ∙ sym (words_take d) in
    c.put.ensures (λ j. words (block_at src j)) l.invariant (sym e)
