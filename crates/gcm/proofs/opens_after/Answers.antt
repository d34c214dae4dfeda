-- `gcm::opens_after` meets its contract: the hash that is expected is that of label and text (`galois_hash_after`), under the mask
-- (`masked-words`).
use Rattle.gcm.proofs.Names.{List, ◌∙◌, ◌≡◌, ap, auth_blocks, ghash, length, rules, same, tag_part, text_part, value, ℕ}
use Rattle.gcm.proofs.InWords.{masked-words}
use Rattle.gcm.proofs.opens_after.Goals as goal

pub returns : goal.returns
returns c =
    let a = c.args in
    let h = value a.h in
    let four : length a.mask ≡ 4 = search (rules, c.well_formed) in
    let hash = c.galois_hash_after-hash.ensures ∙ ap (λ (text : List ℕ). ghash h (auth_blocks a.aad.now text)) c.text_part.ensures in
    c.has_tag.ensures ∙ ap (same (tag_part a.«data».now))
    (masked-words a.mask a.aad.now (text_part a.«data».now) _ _ h _ four hash c.from_u128.ensures c.block_xor.ensures)
