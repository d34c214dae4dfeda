-- `cbc::decrypt_side_by_side` meets its contract. A turn of the loop goes 64 blocks on, and then what is left goes (`few_on`); at the end
-- no full block is left, and a rest gives nothing.
use Rattle.cbc.proofs.Names.{◌*◌, ◌+◌, ◌/◌, ◌∙◌, ◌≡◌, arith, cbc_decrypt, length, length-unwords, reached-first, refl, reverse, take_at}
use Rattle.cbc.proofs.Names.{unwords, walk-ended}
use Rattle.cbc.proofs.Batches.{few_on}
use Rattle.cbc.proofs.decrypt_side_by_side.Goals as goal

pub loop-i-init : goal.loop-i-init
loop-i-init c =
    let a = c.args in
    rw (take_at (unwords a.iv) a.«data».now 16 (length-unwords a.iv)) (reached-first (cbc_decrypt (reverse a.back)) _ _ _)

pub loop-i-preserved : goal.loop-i-preserved
loop-i-preserved c =
    let a = c.args in
    let l = c.loop-i in
    let b = c.block_before-s in
    let on : 1024 * l.i + 1024 ≡ 1024 * (l.i + 1) = omega arith in
    rw on at (few_on a.back 64 (unwords a.iv) _ a.«data».now _ _ _ (1024 * l.i) (length-unwords a.iv) (length-unwords b.result) b.ensures
    l.invariant (omega arith) (omega arith) c.decrypt_few.ensures)

pub returns : goal.returns
returns c =
    let a = c.args in
    let l = c.loop-i in
    let b = c.block_before-s-2 in
    let all : l.i ≡ length a.«data».now / 1024 = omega arith in
    let R = few_on a.back _ (unwords a.iv) _ a.«data».now _ _ _ _ (length-unwords a.iv) (length-unwords b.result) b.ensures
    (rw all at l.invariant) (omega arith) (omega arith) c.decrypt_few-2.ensures in
    let r = walk-ended R (omega arith) refl in
    record { result_value = c.block_before.ensures ∙ r.0; out_after = r.1 }
