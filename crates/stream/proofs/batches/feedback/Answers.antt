-- `stream::batches::feedback` meets its contract. The first block goes by itself (`fed_reached`), and a turn of the loop goes as many
-- blocks on as the batch has (`fed_on`), each from the block before it.
use Rattle.stream.proofs.Names.{arith, fed_on, fed_reached, length-unwords}
use Rattle.stream.proofs.Ahead.{cfb_fed}
use Rattle.stream.proofs.batches.feedback.Goals as goal

pub loop-at-preserved : goal.loop-at-preserved
loop-at-preserved c =
    let l = c.loop-at in
    fed_on _ (cfb_fed _) _ _ l.out _ l.at c.next_batch-m.result l.invariant (omega arith) (omega arith) c.encrypt_xored.ensures

pub returns : goal.returns
returns c =
    let l = c.loop-at in
    rw c.block_at.ensures (fed_reached _ (cfb_fed _) _ _ _ _ l.out l.at l.invariant (length-unwords c.args.iv) (omega arith) (omega arith)
    c.step.ensures.out_after)
