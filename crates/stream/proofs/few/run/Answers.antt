-- `stream::few::run` meets its contract. A turn of the loop goes 64 blocks on (`blocks_on`), and what is left ends the walk (`onward`).
use Rattle.stream.proofs.Names.{◌*◌, ◌+◌, ◌/◌, ◌≡◌, arith, length, tail_is, kind_of}
use Rattle.stream.proofs.Walks.{blocks_on, onward}
use Rattle.stream.proofs.few.run.Goals as goal

pub loop-i-preserved : goal.loop-i-preserved
loop-i-preserved c =
    let l = c.loop-i in
    let a = c.args in
    let x = rw (tail_is (a.«data».now) (1024 * l.i)) at c.few-end.ensures in
    let on : 1024 * l.i + 1024 ≡ 1024 * (l.i + 1) = omega arith in
    rw on at (blocks_on (kind_of a.kind) a.rk l.invariant 64 _ _ (omega arith) (omega arith) x.state_value x.out_after)

pub returns : goal.returns
returns c =
    let a = c.args in
    let l = c.loop-i in
    let all : l.i ≡ length a.«data».now / 1024 = omega arith in
    onward (kind_of a.kind) a.rk (rw all at l.invariant) _ _ _ _ c.last.ensures
