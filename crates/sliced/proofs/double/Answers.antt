use Rattle.sliced.proofs.Names.{arith, rules}
use Rattle.sliced.proofs.Mixing.{doubled_next}
use Rattle.sliced.proofs.double.Goals as goal

pub loop-i-preserved : goal.loop-i-preserved
loop-i-preserved c =
    let l = c.loop-i in
    λ f n h. doubled_next f n l.i l.s (omega arith) (search rules) (l.invariant f n h)

pub returns : goal.returns
returns c = λ f n h p k hp. c.loop-i.invariant f n h p k (omega arith)
