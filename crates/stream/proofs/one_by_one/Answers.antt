-- `stream::one_by_one` meets its contract. A turn of the loop goes one block on (`reached-next`), and then the rest is xored (`ended`).
use Rattle.stream.proofs.Names.{◌*◌, ◌+◌, ◌/◌, ◌≡◌, arith, length, length_tailed, length-take-le, reached-next}
use Rattle.stream.proofs.Names.{tailed, take, unwords}
use Rattle.stream.proofs.RoundTrip.{stream-block}
use Rattle.stream.proofs.Walks.{ended}
use Rattle.stream.proofs.one_by_one.Goals as goal

pub loop-i-preserved : goal.loop-i-preserved
loop-i-preserved c =
    let a = c.args in
    let l = c.loop-i in
    let d = a.«data».now in
    let b = tailed (16 * l.i) d in
    let full = stream-block a.kind a.rk (unwords l.s) (take 16 b) (length-take-le 16 b (omega (arith, length_tailed d (16 * l.i)))) in
    let on : 16 * l.i + 16 ≡ 16 * (l.i + 1) = omega arith in
    rw on at (reached-next _ _ _ _ _ _ _ l.invariant _ _ (omega arith) (omega arith) full c.step-next.ensures.result_value
    c.step-next.ensures.out_after)

pub returns : goal.returns
returns c =
    let a = c.args in
    let l = c.loop-i in
    let rested = c.xor_rest-pad.ensures in
    let all : l.i ≡ length a.«data».now / 16 = omega arith in
    ended a.kind a.rk (rw all at l.invariant) _ _ _ (omega arith) rested.value rested.out_after
