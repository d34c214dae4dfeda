-- What the pieces to come say of the next one, and what stands in the output after it.
use Rattle.ranges.proofs.Names.{Ctr, Plan, [], ◌+◌, ◌-◌, ◌<◌, ◌∙◌, ◌≡◌, accepts, arith, chain-rest, drop, eqb-true, get_or}
use Rattle.ranges.proofs.Names.{length, rules, stream_mode, sym, take, take_all, true, ℕ}
use Rattle.ranges.proofs.Accepted.{at_most_64, from_0_to_n}
use Rattle.ranges.proofs.Following.{First, follows_from, follows_on, ends}
use Rattle.ranges.proofs.Joined.{joined}
use Rattle.ranges.proofs.SideBySide.{as_many, over_pieces, yielded}
use Rattle.std.proofs.lemmas.Iterator.Consumers.{YieldsList-end, YieldsList-turn}
use Rattle.std.proofs.lemmas.List.{length_push}
use Rattle.ranges.proofs.by_plan.put_pieces.Goals as goal

-- the next piece
next : (p : Plan) (n k at : ℕ) {s l : ℕ} → accepts p n ≡ true → length p.starts ≡ 64 → length p.lengths ≡ 64
    → (k < p.count) × (s ≡ get_or p.starts k 0) × (l ≡ get_or p.lengths k 0) → follows_from p.starts p.lengths p.count n k at ≡ true
    → First at n s l (drop (k + 1) (take p.count p.starts)) (drop (k + 1) (take p.count p.lengths))
next p n k at accepted room room' is follow =
    let few = at_most_64 p n accepted in
    rw (is.1, is.2) (follows_on p.starts p.lengths p.count k at n (omega arith) (omega arith) is.0 follow)

pub loop-start-init : goal.loop-start-init
loop-start-init c =
    record {
      can = (tt, tt);
      finite = tt;
      within = omega arith;
      follow = from_0_to_n _ _ c.requires.data_value;
      written = rw (chain-rest (stream_mode Ctr c.args.rk) (c.args.iv.now) [] (omega arith));
    }

pub overflow_add-end : goal.overflow_add-end
overflow_add-end c =
    let p = c.args.plan in
    let l = c.loop-start in
    let road =
    over_pieces p c.into_iter-start-iterator.ensures.into_iter_gives c.take-start-items.ensures.source c.take-start-items.ensures.count
    c.zip.ensures.first c.iter.ensures.rest cc in
    let turn =
    YieldsList-turn road l.yielded l.start-iterator l.yielded_by c.next.result c.next.new.self (c.in-Some.start, c.in-Some.length) c.in-Some.is
    c.next.ensures.steps in
    let piece = yielded p (at_most_64 _ _ c.requires.data_value) (search rules) (search rules) turn in
    let on = next p _ _ _ c.requires.data_value (search rules) (search rules) piece l.invariant.follow in
    record { fits = omega (arith, on.inside) }

pub slice_bounds-put_stretch-end : goal.slice_bounds-put_stretch-end
slice_bounds-put_stretch-end c =
    let p = c.args.plan in
    let l = c.loop-start in
    let road =
    over_pieces p c.into_iter-start-iterator.ensures.into_iter_gives c.take-start-items.ensures.source c.take-start-items.ensures.count
    c.zip.ensures.first c.iter.ensures.rest cc in
    let turn =
    YieldsList-turn road l.yielded l.start-iterator l.yielded_by c.next.result c.next.new.self (c.in-Some.start, c.in-Some.length) c.in-Some.is
    c.next.ensures.steps in
    let piece = yielded p (at_most_64 _ _ c.requires.data_value) (search rules) (search rules) turn in
    let on = next p _ _ _ c.requires.data_value (search rules) (search rules) piece l.invariant.follow in
    let inside = on.inside in search rules

pub loop-start-preserved : goal.loop-start-preserved
loop-start-preserved c =
    let p = c.args.plan in
    let l = c.loop-start in
    let road =
    over_pieces p c.into_iter-start-iterator.ensures.into_iter_gives c.take-start-items.ensures.source c.take-start-items.ensures.count
    c.zip.ensures.first c.iter.ensures.rest cc in
    let turn =
    YieldsList-turn road l.yielded l.start-iterator l.yielded_by c.next.result c.next.new.self (c.in-Some.start, c.in-Some.length) c.in-Some.is
    c.next.ensures.steps in
    let piece = yielded p (at_most_64 _ _ c.requires.data_value) (search rules) (search rules) turn in
    let on = next p _ _ _ c.requires.data_value (search rules) (search rules) piece l.invariant.follow in
    let a = c.args in
    let n = c.in-Some.length.now in
    let size : l.at + n - l.at ≡ n = omega arith in
    let stretched = rw (on.starts_here, size) at c.put_stretch.ensures in
    record {
      can = (tt, tt);
      finite = tt;
      within = on.inside;
      follow = rw (length_push l.yielded (c.in-Some.start, c.in-Some.length)) on.rest;
      written =
          joined a.rk (a.iv.now) (a.«data».now) (a.out.now) l.out _ l.at n l.invariant.within l.invariant.written stretched;
    }

pub returns : goal.returns
returns c =
    let p = c.args.plan in
    let l = c.loop-start in
    let road =
    over_pieces p c.into_iter-start-iterator.ensures.into_iter_gives c.take-start-items.ensures.source c.take-start-items.ensures.count
    c.zip.ensures.first c.iter.ensures.rest cc in
    let all = YieldsList-end road l.yielded l.start-iterator l.yielded_by c.next.result c.next.new.self c.in-None.is c.next.ensures.steps in
    let d = c.args.«data».now in
    let few = at_most_64 _ _ c.requires.data_value in
    let room : length p.starts ≡ 64 = search rules in
    let many = as_many p few room (search rules) in
    let last = ends p.starts p.lengths p.count (length l.yielded) l.at (length d) (omega arith) (omega (arith, all.1, many)) in
    let end = eqb-true l.at (length d) (sym last ∙ l.invariant.follow) in
    rw (take_all l.at d (omega (arith, end))) at l.invariant.written
