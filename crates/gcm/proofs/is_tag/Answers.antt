-- `gcm::is_tag` meets its contract: the four words of the difference are all 0 exactly where the bytes are the expected tag
-- (`is_tag-words`).
use Rattle.gcm.proofs.Names.{Fits, ◌^◌, ◌≡◌, below_each, get_or, length, rules, w32, ℕ}
use Rattle.gcm.proofs.TagTest.{is_tag-words}
use Rattle.gcm.proofs.is_tag.Goals as goal

pub returns : goal.returns
returns c =
    let s = c.args.bytes.now in
    let e = c.args.expected in
    let four : length e ≡ 4 = search (rules, c.well_formed) in
    let fits : (i : ℕ) → Fits w32 (get_or e i 0) = λ i. search (rules, c.well_formed) in
    is_tag-words s _ e _ c.requires (below_each 256 s (λ i. (c.type_inv.bytes i).fits)) c.split_block.ensures
    four (below_each (2 ^ 32) e (λ i. (fits i).fits)) c.block_xor-d.ensures
