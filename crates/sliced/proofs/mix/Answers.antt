-- A turn adds to one word more the five words of s that L takes its bit from.
use Rattle.sliced.proofs.Names.{arith, rules}
use Rattle.sliced.proofs.Mixing.{mixed-next}
use Rattle.sliced.proofs.mix.Goals as goal

pub loop-i-preserved : goal.loop-i-preserved
loop-i-preserved c =
    let l = c.loop-i in
    let a = c.args in
    λ f n h g. mixed-next f n a.a.now a.s.now h g l.i l.a (omega arith) (search rules) (l.invariant f n h g)

pub returns : goal.returns
returns c = λ f n h g p k hp. (c.loop-i.invariant f n h g).0 p k (omega arith)
