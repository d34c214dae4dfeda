-- `gcm::opens` meets its contract: the tag that is expected is the one of the message's text part.
use Rattle.gcm.proofs.Names.{◌∙◌, ap, opens_under, same, tag_of, tag_part, unwords, value}
use Rattle.gcm.proofs.opens.Goals as goal

pub returns : goal.returns
unfolding opens_under
returns c =
    let a = c.args in
    let tag = tag_of a.rk (value a.h) (unwords a.j0) a.aad.now in
    c.has_tag.ensures ∙ ap (same (tag_part a.«data».now)) (c.tag.ensures ∙ ap tag c.text_part.ensures)
