-- `gcm::masked_tag` meets its contract: the words of the hash and of the mask, xored, are the tag's (`masked-words`).
use Rattle.gcm.proofs.Names.{◌≡◌, length, rules, value}
use Rattle.gcm.proofs.InWords.{masked-words}
use Rattle.gcm.proofs.masked_tag.Goals as goal

pub returns : goal.returns
returns c =
    let a = c.args in
    let four : length a.mask ≡ 4 = search (rules, c.well_formed) in
    masked-words a.mask a.aad.now a.text.now _ _ (value a.h) _ four c.galois_hash.ensures c.from_u128-hash.ensures c.block_xor.ensures
