-- What a turn leaves, and what the walk leaves at its end.
use Rattle.shelf.proofs.Names.{Some, ◌∙◌, add-zero, arith, heads, sym, zero-add}
use Rattle.shelf.proofs.Walks.{any-reached, any_here, any_none, kept-within, kept_here, kept_none, reaching, sizes-kept, staying}
use Rattle.shelf.proofs.lookup.kept_beside.Goals as goal

pub loop-head-init : goal.loop-head-init
unfolding heads
loop-head-init c =
    rw c.into_iter-head-iterator.ensures.into_iter_gives
    (any-reached c.args.job c.args.edition _, rw zero-add (sizes-kept (Some c.args.job) _))

pub returns-then-reaches : goal.returns-then-reaches
returns-then-reaches c =
    let i = c.loop-head.invariant in
    let found = any_here (reaching c.args.job c.args.edition) c.in-Some.ensures.steps (sym c.reaches.ensures ∙ c.if-reaches.true) in
    rw (sym i.0 ∙ found)

pub overflow_add-kept : goal.overflow_add-kept
overflow_add-kept c =
    let i = c.loop-head.invariant in
    let here = kept_here (staying (Some c.args.job)) c.in-Some.ensures.steps (sym c.stays.ensures ∙ c.if-stays.true) in
    omega (arith, i.1, here, kept-within (Some c.args.job) c.args.used.now)

pub returns : goal.returns
returns c =
    let i = c.loop-head.invariant in
    let none = c.in-None.ensures.steps.0 in
    rw (
      sym i.0 ∙ any_none (reaching c.args.job c.args.edition) none,
      sym i.1,
      kept_none (staying (Some c.args.job)) none,
      add-zero,
    )
