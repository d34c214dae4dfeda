-- What is added so far is no more than all.
use Rattle.block.proofs.Base.{arith}
use Rattle.editions.proofs.Turns.{sum_turn, sum-end}
use Rattle.editions.proofs.total.Goals as goal

pub returns-in_err-total : goal.returns-in_err-total
returns-in_err-total c =
    let turn = sum_turn c.args.lengths.now c.loop-length.length-index (omega arith) in
    rw c.from_residual.ensures (λ h. c.in_err-total.ensures (omega arith))

pub loop-length-preserved : goal.loop-length-preserved
loop-length-preserved c =
    let turn = sum_turn c.args.lengths.now c.loop-length.length-index (omega arith) in
    let added = c.in_ok-total.ensures in (omega arith, omega arith)

pub returns : goal.returns
returns c =
    let past = sum-end c.args.lengths.now c.loop-length.length-index (omega arith) in
    (omega arith, omega arith)
