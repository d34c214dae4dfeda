-- The verdict on the host's record is told, whose place is below 64.
use Rattle.std.specs.Prelude.{Ok, None, Some}
use Rattle.block.proofs.Base.{◌<◌, ◌≡◌, ◌∙◌, ap, arith, rules}
use Rattle.editions.specs.Which.{Verdict}
use Rattle.editions.proofs.WhichOpens.{place-below_64}
use Rattle.luossavin.specs.Which.{told_of, host_which}
use Rattle.luossavin.proofs.Asked.{told_found, told_none, told_place, told_refused}
use Rattle.luossavin.proofs.which.luossavin_which.Goals as goal

pub overflow_cast-result : goal.overflow_cast-result
overflow_cast-result c =
    let w = c.which-found in
    let e : w.result.ended ≡ Ok (Some c.in-Ok-Some.candidate) = search rules in
    let place : c.in-Ok-Some.candidate.place < 64 =
    rw (← told_place w.result c.in-Ok-Some.candidate e, ap (λ (v : Verdict). v.place) w.ensures) (place-below_64 _ _ _ _ _) in
    record { fits = omega (arith, place) }

pub returns-in-Ok-Some : goal.returns-in-Ok-Some
unfolding host_which
returns-in-Ok-Some c =
    let w = c.which-found in
    let e : w.result.ended ≡ Ok (Some c.in-Ok-Some.candidate) = search rules in
    rw c.report_found-answer.ensures (told_found w.result c.in-Ok-Some.candidate e ∙ ap told_of w.ensures ∙ rw c.into.ensures)

pub returns-in_default : goal.returns-in_default
unfolding host_which
returns-in_default c =
    let w = c.which-found in
    let e : w.result.ended ≡ Ok None = search rules in
    rw c.report_found-answer.ensures (told_none w.result e ∙ ap told_of w.ensures ∙ rw c.into.ensures)

pub returns-in_default-2 : goal.returns-in_default-2
unfolding host_which
returns-in_default-2 c =
    let w = c.which-found in
    rw c.report_found-answer.ensures (told_refused w.result _ c.in_default.is ∙ ap told_of w.ensures ∙ rw c.into.ensures)
