-- What a turn leaves, and what the search comes to at its end.
use Rattle.block.proofs.Base.{arith, length-take, refl, rules}
use Rattle.cipher_mode.proofs.Passed.{data-within, with_tag_passed}
use Rattle.editions.proofs.Turns.{sum_turn, short_turn, search_turn, search-end}
use Rattle.editions.proofs.Candidates.search.Goals as goal

pub loop-place-init : goal.loop-place-init
loop-place-init c = record { left = omega (arith, c.args.self.add_up); short = c.requires.lengths_value; first = refl }

pub overflow_add-end : goal.overflow_add-end
overflow_add-end c = let turn = sum_turn c.args.self.lengths.now c.loop-place.place (omega arith) in search rules

pub slice_bounds-opens_after-end : goal.slice_bounds-opens_after-end
slice_bounds-opens_after-end c = let turn = sum_turn c.args.self.lengths.now c.loop-place.place (omega arith) in search rules

pub opens_after-requires-clause-hashable : goal.opens_after-requires-clause-hashable
opens_after-requires-clause-hashable c =
    let short = short_turn c.args.self.lengths.now c.loop-place.place (omega arith) c.loop-place.invariant.short in
    let within = data-within _ _ _ c.requires.file_value in (simp length-take (omega (arith, short.0)), omega (arith, within))

pub opens_after-requires-clause-in_bounds : goal.opens_after-requires-clause-in_bounds
opens_after-requires-clause-in_bounds c = with_tag_passed _ c.requires.file_value

pub returns-then-opens_after : goal.returns-then-opens_after
returns-then-opens_after c =
    let l = c.loop-place in
    let turn = search_turn c.args.self.lengths.now l.place (omega arith) _ _ _ _ _ l.invariant.first c.opens_after.ensures in
    rw c.if-opens_after.true at turn

pub loop-place-preserved : goal.loop-place-preserved
loop-place-preserved c =
    let l = c.loop-place in
    let ns = c.args.self.lengths.now in
    let turn = sum_turn ns l.place (omega arith) in
    let short = short_turn ns l.place (omega arith) l.invariant.short in
    let found = search_turn ns l.place (omega arith) _ _ _ _ _ l.invariant.first c.opens_after.ensures in
    record { left = omega arith; short = short.1; first = rw c.if-opens_after.false at found }

pub returns : goal.returns
returns c = let l = c.loop-place in search-end _ l.place (omega arith) _ _ l.start _ l.invariant.first
