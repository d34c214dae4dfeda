-- `gcm::encrypt` meets its contract. A text whose pads are ready goes by them; else the stream writes the text, the tag is that of what
-- stands there now, and it is put behind the text (`sealed-written`).
use Rattle.gcm.proofs.Names.{List, ◌∙◌, ap, over, unwords, value, ℕ}
use Rattle.gcm.proofs.InWords.{text-words, sealed-written}
use Rattle.gcm.proofs.encrypt.Goals as goal

pub returns : goal.returns
returns c =
    let a = c.args in
    let o = a.out.now in
    let text = text-words a.rk _ _ a.«data».now c.gcm_block_add_one.ensures.counter_value in
    sealed-written a.rk (value a.h) (unwords a.j0) a.aad.now _ o _ _ _
    (c.stream.ensures.out_after ∙ ap (λ (q : List ℕ). over q o) text) c.tag-mac.ensures c.put_block.ensures
