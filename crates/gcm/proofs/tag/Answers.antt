-- `gcm::tag` meets its contract: the mask is the cipher of J0.
use Rattle.gcm.proofs.Names.{Fits, List, ◌^◌, ◌∙◌, ◌≡◌, ap, below_each, encrypt-unwords, get_or, length, masked_tag, rules, tag_of}
use Rattle.gcm.proofs.Names.{unwords, value, w32, ℕ}
use Rattle.gcm.proofs.tag.Goals as goal

pub returns : goal.returns
unfolding tag_of
returns c =
    let a = c.args in
    let four : length a.j0 ≡ 4 = search (rules, c.well_formed) in
    let fits : (i : ℕ) → Fits w32 (get_or a.j0 i 0) = λ i. search (rules, c.well_formed) in
    c.masked_tag.ensures ∙ ap (λ (m : List ℕ). masked_tag m (value a.h) a.aad.now a.text.now)
    (ap unwords c.encrypt-mask.ensures ∙ encrypt-unwords a.rk a.j0 four (below_each (2 ^ 32) a.j0 (λ i. (fits i).fits)))
