-- A turn puts one block more, whose words are those of the sixteen bytes at the front of what is left.
use Rattle.block.proofs.Base.{◌*◌, ◌-◌, ◌≤◌, ◌∙◌, ap, sym, arith, rules, drop, length, length-drop, take_all}
use Rattle.block.specs.Blocks.{block_at}
use Rattle.block.specs.Words.{words}
use Rattle.block.proofs.WordsBack.{words_take}
use Rattle.rows.proofs.Standing.{no_rows}
use Rattle.rows.proofs.Batch.load.Goals as goal

pub loop-i-init : goal.loop-i-init
loop-i-init c = search (rules, no_rows)

pub loop-i-preserved : goal.loop-i-preserved
loop-i-preserved c =
    let l = c.loop-i in
    let src = c.args.src.now in
    let d = drop (16 * l.i) src in
    let k : length d ≤ length src - 16 * l.i = omega (arith, length-drop (16 * l.i) src) in
    let e = c.split_block.ensures ∙ ap words (take_all (length src - 16 * l.i) d k) ∙ sym (words_take d) in
    c.put.ensures (λ j. words (block_at src j)) l.invariant (sym e)
