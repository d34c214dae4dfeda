-- The definition goes by the same test.
use Rattle.shelf.proofs.Names.{◌∙◌, arith, below_each, rules, sym}
use Rattle.shelf.proofs.Putting.{made_short, made_long, marked-over, unmarked-over}
use Rattle.shelf.proofs.change.make_room.Goals as goal

pub returns-then-short : goal.returns-then-short
returns-then-short c =
    let kept = c.keep.ensures in
    let made = made_short _ _ c.requires c.args.n c.args.job (sym c.short.ensures ∙ c.if-short.true) (kept.value, kept.shelf_after) in
    record { value = made.0; shelf_after = made.1 }

pub overflow_add-shelf : goal.overflow_add-shelf
overflow_add-shelf c =
    let small = below_each 256 (c.args.shelf.now) (λ k. search rules) in
    omega (arith, (marked-over _ _ small c.requires c.args.job c.in-Some.ensures).0)

pub bounds-shelf-old : goal.bounds-shelf-old
bounds-shelf-old c =
    let small = below_each 256 (c.args.shelf.now) (λ k. search rules) in
    omega (arith, (marked-over _ _ small c.requires c.args.job c.in-Some.ensures).0, c.requires.within)

pub returns-in-Some : goal.returns-in-Some
returns-in-Some c =
    let small = below_each 256 (c.args.shelf.now) (λ k. search rules) in
    let marked = marked-over _ _ small c.requires c.args.job c.in-Some.ensures in
    let made = made_long _ _ c.requires c.args.n c.args.job (sym c.short.ensures ∙ c.if-short.false) marked.1 in
    record { value = made.0; shelf_after = made.1 }

pub returns-in_default : goal.returns-in_default
returns-in_default c =
    let small = below_each 256 (c.args.shelf.now) (λ k. search rules) in
    let same = unmarked-over _ _ small c.requires c.args.job c.in_default.ensures in
    let made = made_long _ _ c.requires c.args.n c.args.job (sym c.short.ensures ∙ c.if-short.false) same in
    record { value = made.0; shelf_after = made.1 }
