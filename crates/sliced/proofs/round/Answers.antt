-- Once s holds what the S-boxes make of all four bytes, it holds it twice, and L of it is added to a.
use Rattle.sliced.proofs.Names.{Held, arith, keyed, subbed, tau-lt}
use Rattle.sliced.proofs.Mixing.{round-done}
use Rattle.sliced.proofs.round.Goals as goal

pub loop-q-preserved : goal.loop-q-preserved
loop-q-preserved c = λ p k hp. c.sub_byte.ensures p k (omega arith)

pub returns : goal.returns
returns c =
    let l = c.loop-q in
    let a = c.args in
    let f = subbed a.b.now a.c.now a.d.now a.k in
    let h : Held f a.n 256 l.s = λ p k hp. l.invariant p k (omega arith) in
    round-done a.a.now a.b.now a.c.now a.d.now _ a.k a.n
    (c.mix.ensures f a.n (λ e. tau-lt (keyed a.b.now a.c.now a.d.now a.k e)) (c.double.ensures f a.n h))
