-- What a turn leaves, and what the walk leaves at its end.
use Rattle.shelf.proofs.Names.{◌∙◌, arith, refl, sym}
use Rattle.shelf.proofs.Walks.{found_here, found_none, found_on, sizes_on, sizes-within}
use Rattle.shelf.proofs.lookup.current.Goals as goal

pub loop-head-init : goal.loop-head-init
loop-head-init c =
    rw c.into_iter-head-iterator.ensures.into_iter_gives (refl, omega (arith, sizes-within c.args.used.now))

pub returns-then-is_current_of : goal.returns-then-is_current_of
returns-then-is_current_of c =
    sym (found_here c.args.job _ c.in-Some.ensures.steps (sym c.is_current_of.ensures ∙ c.if-is_current_of.true))
    ∙ c.loop-head.invariant.0

pub loop-head-preserved : goal.loop-head-preserved
loop-head-preserved c =
    let i = c.loop-head.invariant in
    let steps = c.in-Some.ensures.steps in (
      sym (found_on c.args.job _ steps (sym c.is_current_of.ensures ∙ c.if-is_current_of.false)) ∙ i.0,
      omega (arith, sizes_on c.args.job 0 steps),
    )

pub returns : goal.returns
returns c = sym (found_none c.args.job _ c.in-None.ensures.steps.0) ∙ c.loop-head.invariant.0
