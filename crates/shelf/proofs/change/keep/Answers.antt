-- What a turn leaves, and what the walk leaves at its end.
use Rattle.shelf.proofs.Names.{◌+◌, ◌-◌, ◌∙◌, ◌≡◌, arith, below_each, refl, rules, sym}
use Rattle.shelf.proofs.ReadsProper.{on}
use Rattle.shelf.proofs.Keeping.{all_kept, stay_turn, gone_turn}
use Rattle.shelf.proofs.change.keep.Goals as goal

pub overflow_add-end : goal.overflow_add-end
overflow_add-end c = let turn = on c.loop-head.shelf c.args.used _ c.in-Some.ensures in omega arith

pub copy_within-requires-clause-in_bounds : goal.copy_within-requires-clause-in_bounds
copy_within-requires-clause-in_bounds c = let turn = on c.loop-head.shelf c.args.used _ c.in-Some.ensures in omega arith

pub copy_within-requires-clause-dest_in_bounds : goal.copy_within-requires-clause-dest_in_bounds
copy_within-requires-clause-dest_in_bounds c = let turn = on c.loop-head.shelf c.args.used _ c.in-Some.ensures in omega arith

pub overflow_add-to : goal.overflow_add-to
overflow_add-to c = let turn = on c.loop-head.shelf c.args.used _ c.in-Some.ensures in omega arith

pub loop-head-smaller-then-stays : goal.loop-head-smaller-then-stays
loop-head-smaller-then-stays c = let turn = on c.loop-head.shelf c.args.used _ c.in-Some.ensures in omega arith

pub loop-head-preserved-then-stays : goal.loop-head-preserved-then-stays
loop-head-preserved-then-stays c =
    let turn = on c.loop-head.shelf c.args.used _ c.in-Some.ensures in
    let small = below_each 256 (c.args.shelf.now) (λ k. search rules) in
    let n : c.loop-head.at + c.in-Some.head.size - c.loop-head.at ≡ c.in-Some.head.size = omega arith in
    stay_turn c.requires c.loop-head.invariant turn small (sym c.stays.ensures ∙ c.if-stays.true)
    (c.copy_within.ensures.after ∙ rw n) refl

pub loop-head-smaller : goal.loop-head-smaller
loop-head-smaller c = let turn = on c.loop-head.shelf c.args.used _ c.in-Some.ensures in omega arith

pub loop-head-preserved : goal.loop-head-preserved
loop-head-preserved c =
    let turn = on c.loop-head.shelf c.args.used _ c.in-Some.ensures in
    gone_turn c.requires c.loop-head.invariant turn (sym c.stays.ensures ∙ c.if-stays.false) refl refl

pub returns : goal.returns
returns c =
    let kept = all_kept c.requires c.loop-head.invariant c.in_default.ensures in
    record { value = kept.0; shelf_after = kept.1 }
