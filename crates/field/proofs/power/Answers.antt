-- A turn takes the lowest bit of what is left of n (`power_turn`).
use Rattle.field.proofs.Names.{◌%◌, ◌/◌, ◌∙◌, ◌≡◌, ap, ap₂, arith, gmul, gpow, one, rules, sym, value, ℕ}
use Rattle.field.proofs.Bounded.{whole-lt, gmul-lt, one-lt, gpow-lt}
use Rattle.field.proofs.Commutes.{one-gmul, gmul-one}
use Rattle.field.proofs.Powers.{power-one, power_turn}
use Rattle.field.proofs.power.Goals as goal
use Rattle.field.proofs.power.Goals.{then-rest-eq1, else-rest-eq1}

pub loop-rest-init : goal.loop-rest-init
unfolding one
loop-rest-init c = search (rules, one-lt, whole-lt, one-gmul, gpow-lt)

pub loop-rest-preserved : goal.loop-rest-preserved
unfolding gpow
loop-rest-preserved c =
    let turn = c.loop-rest in
    let p = value turn.product in
    let s = value turn.square in
    let n = turn.rest in
    let small = turn.invariant.1 in
    let squared : value c.squared-square.result ≡ gmul s s = c.squared-square.ensures in
    let once : value c.if-rest-eq1.product ≡ gmul p (gpow s (n % 2)) =
    elim c.if-rest-eq1.branch [
      | then-rest-eq1 w ↦
          ap value w.product-is ∙ w.galois_mul-product.ensures ∙ rw (w.if-rest-eq1.true, power-one s small)
      | else-rest-eq1 w ↦
          let even : n % 2 ≡ 0 = omega (arith, w.if-rest-eq1.false) in
          ap value w.product-is ∙ rw even (sym (gmul-one p turn.invariant.0))
    ] in (
      rw once (gmul-lt p _ (gpow-lt s (n % 2))),
      rw squared (gmul-lt s s small),
      ap₂ (λ (r v : ℕ). gmul r (gpow v (n / 2))) once squared ∙ power_turn s small n p turn.invariant.0 ∙ turn.invariant.2,
    )

pub returns : goal.returns
unfolding gpow
returns c =
    let none : c.loop-rest.rest ≡ 0 = omega arith in
    sym (gmul-one _ c.loop-rest.invariant.0) ∙ rw none at c.loop-rest.invariant.2
