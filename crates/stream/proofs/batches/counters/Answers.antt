-- `stream::batches::counters` meets its contract. A turn of the loop goes as many blocks on as the batch has (`counted_on`).
use Rattle.stream.proofs.Names.{arith, length-unwords, unwords-bytes}
use Rattle.stream.proofs.Counters.{counted_on}
use Rattle.stream.proofs.batches.counters.Goals as goal

pub loop-at-preserved : goal.loop-at-preserved
loop-at-preserved c =
    let a = c.args in
    let l = c.loop-at in
    counted_on a.rk a.wide l.invariant c.next_batch-m.result _ _ (omega arith) (omega arith) (length-unwords l.s)
    (unwords-bytes l.s) c.counter_after-next.ensures c.encrypt_counters.ensures
