-- `gcm::decrypt_short` meets its contract: as `decrypt` does, with the mask and the pads that stand ready.
use Rattle.gcm.proofs.Names.{List, ◌-◌, ◌∙◌, ◌≡◌, ap, arith, below_each, length, length-take-le}
use Rattle.gcm.proofs.Names.{over, sym, tailed, text_of, text_part, value, xors, ℕ}
use Rattle.gcm.proofs.Settled.{into_refused, into_opened, told}
use Rattle.gcm.proofs.Short.{mask-front, text-front}
use Rattle.gcm.proofs.decrypt_short.Goals as goal

pub returns-then-has_tag : goal.returns-then-has_tag
returns-then-has_tag c = λ rk j p.
    let a = c.args in
    let d = a.«data».now in
    let o = a.out.now in
    let pads = a.pads.now in
    let mask = mask-front rk j pads _ p _ (below_each 256 pads (λ i. (c.type_inv.pads i).fits)) c.split_block-mask.ensures in
    let is = told rk (value a.h) j a.aad.now d _ _ _ _ mask c.text_part-text.ensures c.masked_tag.ensures c.has_tag.ensures in
    let opens = sym is ∙ c.if-has_tag.true in
    let long : length c.text_part-text.result.now ≡ length d - 16 =
    ap length c.text_part-text.ensures ∙ length-take-le (length d - 16) d (omega arith) in
    let is-text : xors c.text_part-text.result.now (tailed 32 pads) ≡ text_of rk j (text_part d) =
    text-front rk j pads _ p _ long ∙ ap (text_of rk j) c.text_part-text.ensures in (
      sym opens,
      c.xor_bytes.ensures ∙ ap (λ (q : List ℕ). over q o) is-text ∙ into_opened rk (value a.h) j a.aad.now d o opens,
    )

pub returns : goal.returns
returns c = λ rk j p.
    let a = c.args in
    let pads = a.pads.now in
    let mask = mask-front rk j pads _ p _ (below_each 256 pads (λ i. (c.type_inv.pads i).fits)) c.split_block-mask.ensures in
    let is = told rk (value a.h) j a.aad.now a.«data».now _ _ _ _ mask c.text_part-text.ensures c.masked_tag.ensures c.has_tag.ensures in
    let closed = sym is ∙ c.if-has_tag.false in
    (sym closed, into_refused rk (value a.h) j a.aad.now a.«data».now a.out.now closed)
