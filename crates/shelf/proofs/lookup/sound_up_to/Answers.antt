-- What a turn leaves, and what the walk leaves at its end.
use Rattle.shelf.proofs.Names.{◌∙◌, arith, below_each, rules, sub-zero, sym, take-length}
use Rattle.shelf.proofs.ReadsProper.{walk_on, walk_over}
use Rattle.shelf.proofs.Sound.{passed_all, passing_on, passing_starts, second}
use Rattle.shelf.proofs.lookup.sound_up_to.Goals as goal
use Rattle.shelf.proofs.lookup.sound_up_to.Goals.{else-head-via-then-head+else-has_current, else-head-via-else-head}

pub loop-head-init : goal.loop-head-init
loop-head-init c = (passing_starts c.args.s.now, rw (c.into_iter-head-iterator.ensures.into_iter_gives, sub-zero, take-length))

pub returns-then-has_current : goal.returns-then-has_current
returns-then-has_current c =
    let i = c.loop-head.invariant in
    let turn = (walk_on c.args.s.now _ _ (sym i.1 ∙ c.in-Some.ensures.steps)).0 in
    second i.0 turn (rw (c.if-head.true, sym c.has_current.ensures ∙ c.if-has_current.true))

pub overflow_add-at : goal.overflow_add-at
overflow_add-at c =
    let i = c.loop-head.invariant in
    let turn = (walk_on c.args.s.now _ _ (sym i.1 ∙ c.in-Some.ensures.steps)).0 in omega arith

pub loop-head-preserved : goal.loop-head-preserved
loop-head-preserved c =
    let i = c.loop-head.invariant in
    let on = walk_on c.args.s.now _ _ (sym i.1 ∙ c.in-Some.ensures.steps) in
    let small = below_each 256 c.args.s.now (λ k. search rules) in
    elim c.else-head.branch [
      | else-head-via-then-head+else-has_current w ↦
          (passing_on i.0 on.0 small (rw (w.if-head.true, sym w.has_current.ensures ∙ w.if-has_current.false)), on.1)
      | else-head-via-else-head w ↦ (passing_on i.0 on.0 small (rw w.if-head.false), on.1)
    ]

pub returns : goal.returns
returns c =
    let i = c.loop-head.invariant in passed_all i.0 (walk_over c.args.s.now _ _ (sym i.1 ∙ c.in-None.ensures.steps.0))
