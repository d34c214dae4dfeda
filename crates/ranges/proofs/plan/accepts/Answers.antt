-- The test of the piece at a turn decides, and one that it lets through lies within n.
use Rattle.ranges.proofs.Names.{◌∙◌, ◌≡◌, accepts, arith, le-leb, length, lt-leb, rules, sym}
use Rattle.ranges.proofs.Following.{decided, ends, fits}
use Rattle.ranges.proofs.SideBySide.{as_many, over_pieces, yielded}
use Rattle.std.proofs.lemmas.Iterator.Consumers.{YieldsList-end, YieldsList-turn}
use Rattle.std.proofs.lemmas.List.{length_push}
use Rattle.ranges.proofs.plan.accepts.Goals as goal

pub returns-then-plan-gt-MOST : goal.returns-then-plan-gt-MOST
unfolding accepts
returns-then-plan-gt-MOST c = rw (lt-leb _ _ c.if-plan-gt-MOST.true)

pub returns-then-not-is_piece : goal.returns-then-not-is_piece
unfolding accepts
returns-then-not-is_piece c =
    let p = c.args.plan in
    let l = c.loop-start in
    let road =
    over_pieces p c.into_iter-start-iterator.ensures.into_iter_gives c.take-start-items.ensures.source c.take-start-items.ensures.count
    c.zip.ensures.first c.iter.ensures.rest cc in
    let turn =
    YieldsList-turn road l.yielded l.start-iterator l.yielded_by c.next.result c.next.new.self (c.in-Some.start, c.in-Some.length) c.in-Some.is
    c.next.ensures.steps in
    let few = c.if-plan-gt-MOST.false in
    let is = yielded p few (search rules) (search rules) turn in
    let on = decided p c.args.n _ _ (search rules) (search rules) few is.0 l.invariant.within is.1 is.2 c.is_piece.ensures in
    rw (le-leb p.count 64 few) (sym (rw c.if-not-is_piece.true at on) ∙ l.invariant.decides)

pub overflow_add-at : goal.overflow_add-at
overflow_add-at c =
    let p = c.args.plan in
    let l = c.loop-start in
    let road =
    over_pieces p c.into_iter-start-iterator.ensures.into_iter_gives c.take-start-items.ensures.source c.take-start-items.ensures.count
    c.zip.ensures.first c.iter.ensures.rest cc in
    let turn =
    YieldsList-turn road l.yielded l.start-iterator l.yielded_by c.next.result c.next.new.self (c.in-Some.start, c.in-Some.length) c.in-Some.is
    c.next.ensures.steps in
    let few = c.if-plan-gt-MOST.false in
    let is = yielded p few (search rules) (search rules) turn in
    let on = fits p c.args.n _ _ (search rules) (search rules) few is.0 l.invariant.within is.1 is.2 c.is_piece.ensures in
    record { fits = omega (arith, on c.if-not-is_piece.false) }

pub loop-start-preserved : goal.loop-start-preserved
loop-start-preserved c =
    let p = c.args.plan in
    let l = c.loop-start in
    let road =
    over_pieces p c.into_iter-start-iterator.ensures.into_iter_gives c.take-start-items.ensures.source c.take-start-items.ensures.count
    c.zip.ensures.first c.iter.ensures.rest cc in
    let turn =
    YieldsList-turn road l.yielded l.start-iterator l.yielded_by c.next.result c.next.new.self (c.in-Some.start, c.in-Some.length) c.in-Some.is
    c.next.ensures.steps in
    let few = c.if-plan-gt-MOST.false in
    let is = yielded p few (search rules) (search rules) turn in
    let on = decided p c.args.n _ _ (search rules) (search rules) few is.0 l.invariant.within is.1 is.2 c.is_piece.ensures in
    record {
      can = (tt, tt);
      finite = tt;
      within =
          fits p c.args.n _ _ (search rules) (search rules) few is.0 l.invariant.within is.1 is.2 c.is_piece.ensures
          c.if-not-is_piece.false;
      decides =
          rw (length_push l.yielded (c.in-Some.start, c.in-Some.length)) (sym (rw c.if-not-is_piece.false at on) ∙ l.invariant.decides);
    }

pub returns : goal.returns
unfolding accepts
returns c =
    let p = c.args.plan in
    let l = c.loop-start in
    let road =
    over_pieces p c.into_iter-start-iterator.ensures.into_iter_gives c.take-start-items.ensures.source c.take-start-items.ensures.count
    c.zip.ensures.first c.iter.ensures.rest cc in
    let all = YieldsList-end road l.yielded l.start-iterator l.yielded_by c.next.result c.next.new.self c.in-None.is c.next.ensures.steps in
    let few = c.if-plan-gt-MOST.false in
    let room : length p.starts ≡ 64 = search rules in
    let many = as_many p few room (search rules) in
    let end = ends p.starts p.lengths p.count (length l.yielded) l.at c.args.n (omega arith) (omega (arith, all.1, many)) in
    rw (le-leb p.count 64 few) (sym end ∙ l.invariant.decides)
