-- `gcm::decrypt` meets its contract. A text whose pads are ready goes by them. Else, where the tag is the message's, the stream writes its
-- text (`into_opened`); otherwise nothing is written (`into_refused`).
use Rattle.gcm.proofs.Names.{List, ◌∙◌, ap, over, sym, text_of, unwords, value, ℕ}
use Rattle.gcm.proofs.InWords.{text-words}
use Rattle.gcm.proofs.Settled.{into_refused, into_opened}
use Rattle.gcm.proofs.decrypt.Goals as goal

pub returns-then-opened-clause-out_after : goal.returns-then-opened-clause-out_after
returns-then-opened-clause-out_after c =
    let a = c.args in
    let o = a.out.now in
    let j = unwords a.j0 in
    let opens = sym c.opens-opened.ensures ∙ c.if-opened.true in
    let is-text = text-words a.rk j _ _ c.gcm_block_add_one.ensures.counter_value ∙ ap (text_of a.rk j) c.text_part.ensures in
    c.stream.ensures.out_after ∙ ap (λ (p : List ℕ). over p o) is-text
    ∙ into_opened a.rk (value a.h) j a.aad.now a.«data».now o opens

pub returns-else-opened-clause-out_after : goal.returns-else-opened-clause-out_after
returns-else-opened-clause-out_after c =
    let a = c.args in
    let closed = sym c.opens-opened.ensures ∙ c.if-opened.false in
    into_refused a.rk (value a.h) (unwords a.j0) a.aad.now a.«data».now a.out.now closed
