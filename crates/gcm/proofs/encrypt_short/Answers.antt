-- `gcm::encrypt_short` meets its contract: the text is xored with its pads, and its tag is put behind it (`sealed-written`).
use Rattle.gcm.proofs.Names.{List, ◌∙◌, ap, below_each, length, masked_tag, over, refl, tag_of, take, value, ℕ}
use Rattle.gcm.proofs.InWords.{sealed-written}
use Rattle.gcm.proofs.Short.{mask-front, text-front}
use Rattle.gcm.proofs.encrypt_short.Goals as goal

pub returns : goal.returns
unfolding tag_of
returns c = λ rk j p.
    let a = c.args in
    let pads = a.pads.now in
    let o = a.out.now in
    let h = value a.h in
    let label = a.aad.now in
    let text = take (length a.«data».now) c.xor_bytes.new.out in
    let mask = mask-front rk j pads _ p _ (below_each 256 pads (λ i. (c.type_inv.pads i).fits)) c.split_block-mask.ensures in
    sealed-written rk h j label _ o _ _ _
    (c.xor_bytes.ensures ∙ ap (λ (q : List ℕ). over q o) (text-front rk j pads _ p _ refl))
    (c.masked_tag-mac.ensures ∙ ap (λ (x : List ℕ). masked_tag x h label text) mask) c.put_block.ensures
