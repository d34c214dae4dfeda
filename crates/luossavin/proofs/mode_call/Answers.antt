-- A number up to 4 is a mode's, and any other is refused.
use Rattle.block.proofs.Base.{refl, sym, ◌∙◌}
use Rattle.luossavin.specs.Host.{host_mode_call}
use Rattle.luossavin.proofs.Modes.{mode_told, no_mode_told}
use Rattle.luossavin.proofs.Steps.{told}
use Rattle.luossavin.proofs.mode_call.Goals as goal

pub returns-in_default : goal.returns-in_default
unfolding host_mode_call
returns-in_default c =
    rw (no_mode_told c.args.mode (λ m e. c.in_default.not-Ok m (c.try_from.ensures ∙ e))) (told c.numbered.ensures refl)

pub returns : goal.returns
unfolding host_mode_call
returns c =
    let m = mode_told c.args.mode c.in-Ok.mode (sym c.try_from.ensures ∙ c.in-Ok.is) in
    rw (m.0, m.1) (told c.into.ensures (rw (← c.from-cipher.ensures) c.call.ensures))
