use Rattle.sixteen.proofs.Names.{◌∙◌, ◌≡◌, arith, block, cat, length-unwords, rules, turned, unwords}
use Rattle.sixteen.proofs.Blocks.{block-stored}
use Rattle.sixteen.proofs.Padded.{over-stored}
use Rattle.sixteen.proofs.FewBlocks.store.Goals as goal

pub loop-i-init : goal.loop-i-init
loop-i-init c = unfold cat in search rules

pub loop-i-preserved : goal.loop-i-preserved
loop-i-preserved c =
    let l = c.loop-i in
    let a = c.args in
    block-stored a.out.now l.out _ (λ k. unwords (turned (block a.self.now.x 0 k))) l.i (λ k h. length-unwords _) l.invariant
    (c.put_block.ensures ∙ rw c.taken.ensures)

pub returns : goal.returns
returns c =
    let l = c.loop-i in
    let a = c.args in
    let e : l.i ≡ a.m = omega arith in
    over-stored a.m _ a.out.now l.out (λ k h. length-unwords (turned (block a.self.now.x 0 k))) (rw e at l.invariant)
