-- `cbc::decrypt_batches` meets its contract. The first block goes by itself (`fed_reached`), and a turn of the loop goes as many blocks on
-- as the batch has (`fed_on`), each from the ciphertext block before it.
use Rattle.cbc.proofs.Names.{◌-◌, arith, block-before, block_at, cbc_decrypt, fed_on, fed_reached, length-unwords, reached-first}
use Rattle.cbc.proofs.Names.{reverse, tailed, take_at, unwords}
use Rattle.cbc.proofs.Batches.{decrypt_fed, decrypted}
use Rattle.cbc.proofs.decrypt_batches.Goals as goal

-- before the first block
pub returns-then-ne-clause-reached : goal.returns-then-ne-clause-reached
returns-then-ne-clause-reached c =
    let a = c.args in
    let d = a.«data».now in
    let s = unwords a.iv in
    rw (take_at s d 16 (length-unwords a.iv)) (reached-first (cbc_decrypt (reverse a.back)) s d a.out.now)

pub loop-at-preserved : goal.loop-at-preserved
loop-at-preserved c =
    let l = c.loop-at in
    let a = c.args in
    let d = a.«data».now in
    let at = l.at in
    let n = c.next_batch-m.result in
    fed_on (cbc_decrypt (reverse a.back)) (decrypt_fed a.back) d _ l.out _ at n l.invariant (omega arith) (omega arith)
    (decrypted a.back n (block_at (tailed (at - 16) d)) (block_at (tailed at d)) (tailed at l.out) _ c.encrypt_xored.ensures)

pub returns : goal.returns
returns c =
    let l = c.loop-at in
    let a = c.args in
    let d = a.«data».now in
    let s = unwords a.iv in
    let sixteen = length-unwords a.iv in
    record {
      result_value = l.invariant.whole;
      reached = rw (block-before s d l.at sixteen l.invariant.behind)
          (fed_reached _ (decrypt_fed a.back) d _ s (a.out.now) l.out l.at l.invariant sixteen (omega arith) (omega arith)
          c.step.ensures.out_after);
    }
