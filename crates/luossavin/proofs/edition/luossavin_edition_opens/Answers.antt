-- One candidate is asked about, the label of the job and the edition.
use Rattle.block.proofs.Base.{ℕ, ◌∙◌, ap, ap₂, List, [], ◌∷◌}
use Rattle.cipher_mode.specs.Outcome.{Head, under}
use Rattle.cipher_mode.specs.declared.Sm4Cipher.{Sm4Cipher}
use Rattle.editions.specs.Which.{which}
use Rattle.label.specs.Label.{label_of}
use Rattle.label.proofs.LabelTells.{length_label}
use Rattle.luossavin.specs.Key.{cipher_in}
use Rattle.luossavin.specs.Edition.{host_edition_opens}
use Rattle.luossavin.specs.Which.{ended_head}
use Rattle.luossavin.proofs.Asked.{to_one, asked_ended, one_candidate}
use Rattle.luossavin.proofs.edition.luossavin_edition_opens.Goals as goal

pub returns : goal.returns
unfolding host_edition_opens
returns c =
    let a = c.args in
    let file = a.sealed.now in
    let iv = a.iv.now in
    let found = c.which-found.result in
    c.report_found.ensures ∙ ap (λ n. under found.key (ended_head n found.ended)) c.number.ensures
    ∙ asked_ended found ∙ ap to_one c.which-found.ensures
    ∙ ap₂ {C = Head} (λ (k : Sm4Cipher) (l : List ℕ). to_one (which k file iv l (6 ∷ []))) c.into.ensures c.label-label.ensures
    ∙ one_candidate (cipher_in a.key) (label_of a.job a.edition) file iv (length_label a.job a.edition)
