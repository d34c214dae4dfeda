use Rattle.sixteen.proofs.Names.{◌+◌, ◌⊕◌, ap₂, arith, row, ℕ}
use Rattle.sixteen.proofs.Filling.{changed_next}
use Rattle.sixteen.proofs.rounds.mix.Goals as goal

pub loop-j-preserved : goal.loop-j-preserved
loop-j-preserved c =
    let l = c.loop-j in
    let a = c.args in
    let r = row a.i in
    changed_next r l.j _ _ a.x.now l.x (omega arith)
    (ap₂ (λ (x y : ℕ). x ⊕ y) (l.invariant.above (r + l.j) (omega arith)) c.l_trans.ensures) l.invariant
