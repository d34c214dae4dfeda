use Rattle.sixteen.proofs.Names.{◌*◌, ◌++◌, ◌∙◌, ◌≡◌, ◌≤◌, arith, block_at, cat, length, length-append, length-block_at, length-unwords}
use Rattle.sixteen.proofs.Names.{rules, unwords}
use Rattle.sixteen.proofs.Blocks.{block-stored}
use Rattle.sixteen.proofs.Padded.{over-stored}
use Rattle.sixteen.proofs.lay_before.Goals as goal

pub loop-i-init : goal.loop-i-init
loop-i-init c = unfold cat in search rules

pub loop-i-preserved : goal.loop-i-preserved
loop-i-preserved c =
    let l = c.loop-i in
    let a = c.args in
    let whole = unwords a.iv ++ a.«data».now in
    let s = length-unwords a.iv in
    let room : 16 * a.n ≤ length whole = rw length-append (omega arith) in
    block-stored a.out.now l.out _ (block_at whole) l.i (λ k h. length-block_at whole k a.n (omega arith) room) l.invariant
    (c.put_block.ensures ∙ rw c.block_before.ensures)

pub returns : goal.returns
returns c =
    let l = c.loop-i in
    let a = c.args in
    let whole = unwords a.iv ++ a.«data».now in
    let s = length-unwords a.iv in
    let room : 16 * a.n ≤ length whole = rw length-append (omega arith) in
    let e : l.i ≡ a.n = omega arith in
    over-stored a.n (block_at whole) a.out.now l.out (λ k h. length-block_at whole k a.n h room) (rw e at l.invariant)
