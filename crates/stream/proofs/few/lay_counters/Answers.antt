-- `stream::few::lay_counters` meets its contract: a turn of the loop lays one counter more (`block-stored`).
use Rattle.stream.proofs.Names.{◌≡◌, arith, block-stored, cat, jumped, length-unwords, over-stored, refl, unwords}
use Rattle.stream.proofs.Counters.{length-jumped}
use Rattle.stream.proofs.few.lay_counters.Goals as goal

pub loop-i-init : goal.loop-i-init
unfolding cat
loop-i-init c = refl

pub loop-i-preserved : goal.loop-i-preserved
loop-i-preserved c =
    let l = c.loop-i in
    let a = c.args in
    block-stored a.out.now l.out _ (jumped a.wide (unwords a.c)) l.i
    (λ k h. length-jumped a.wide (unwords a.c) k (length-unwords a.c)) l.invariant
    (rw c.counter_after.ensures at c.put_block.ensures)

pub returns : goal.returns
returns c =
    let l = c.loop-i in
    let a = c.args in
    let e : l.i ≡ a.n = omega arith in
    over-stored a.n (jumped a.wide (unwords a.c)) _ l.out
    (λ k h. length-jumped a.wide (unwords a.c) k (length-unwords a.c)) (rw e at l.invariant)
