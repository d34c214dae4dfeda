-- `cbc::decrypt_few` meets its contract: the ciphers of the blocks, each xored with the block before it (`few_decrypted`).
use Rattle.cbc.proofs.Names.{arith, length-unwords, unwords}
use Rattle.cbc.proofs.Batches.{few_decrypted}
use Rattle.cbc.proofs.decrypt_few.Goals as goal

pub returns : goal.returns
returns c =
    let a = c.args in
    few_decrypted a.back a.m (unwords a.iv) (a.«data».now) _ _ _ _ (a.out.now) _ (length-unwords a.iv) (omega arith)
    c.lay_before.ensures c.encrypt.ensures c.xor_bytes.ensures
