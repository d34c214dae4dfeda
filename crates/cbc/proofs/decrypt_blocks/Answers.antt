-- `cbc::decrypt_blocks` meets its contract: what goes on from where the batches have come to ends the walk (`reached-end`, `reached-over`).
use Rattle.cbc.proofs.Names.{◌∙◌, cbc_decrypt, reached-end, reached-over, reverse, unwords}
use Rattle.cbc.proofs.decrypt_blocks.Goals as goal

pub returns : goal.returns
returns c =
    let a = c.args in
    let m = cbc_decrypt (reverse a.back) in
    let d = a.«data».now in
    let begun = rw (← c.block_before-s.ensures) at c.decrypt_batches-at.ensures.reached in
    let x = c.decrypt_rest.ensures in
    record {
      result_value = x.result_value ∙ reached-end m (unwords a.iv) d (a.out.now) _ _ _ begun;
      out_after = reached-over m (unwords a.iv) d (a.out.now) _ _ _ begun _ x.out_after;
    }
