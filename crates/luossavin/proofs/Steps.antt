-- A host's answer is the call's: the same report, the same output.
use Rattle.block.proofs.Base.{ℕ, ◌∙◌, ◌≡◌, ap, List}
use Rattle.cipher_mode.specs.Outcome.{Head, Outcome, leaving}

pub told : {h k : Head} {o : List ℕ} {x : Outcome} → h ≡ k → leaving k o ≡ x → leaving h o ≡ x
told {h} {k} {o} {x} e f = ap {B = Outcome} (λ (y : Head). leaving y o) e ∙ f
