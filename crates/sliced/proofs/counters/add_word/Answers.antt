-- A turn adds one row more: in the first loop to the row that stands in x, in the second, where it is empty, to zeros.
use Rattle.sliced.proofs.Names.{◌*◌, ◌+◌, ◌∙◌, ◌<◌, ◌≡◌, ◌^◌, arith, blank_room, rules, sym}
use Rattle.sliced.proofs.Ripple.{rippled_first, rippled_next, rippled_last}
use Rattle.sliced.proofs.counters.add_word.Goals as goal

pub loop-i-init : goal.loop-i-init
loop-i-init c = search (rules, rippled_first)

pub loop-i-preserved : goal.loop-i-preserved
loop-i-preserved c =
    let l = c.loop-i in
    let z : 0 + l.i ≡ l.i = omega arith in
    rippled_next c.args.w l.i _ _ _ _ _ _ _ _ (λ k h. rw z at (c.masks-m.ensures l.i k (omega arith) h)) c.row.ensures l.invariant c.add_row.ensures

pub loop-i-2-preserved : goal.loop-i-2-preserved
loop-i-2-preserved c =
    let l = c.loop-i-2 in
    let z : 0 + l.i ≡ l.i = omega arith in
    rippled_next c.args.w l.i _ _ _ _ _ _ _ _ (λ k h. rw z at (c.masks-m.ensures l.i k (omega arith) h))
    (λ q h. blank_room 8 q ∙ sym (l.invariant.rest (8 * l.i + q) (omega arith) ∙ c.requires.1 (8 * l.i + q) (omega arith)))
    l.invariant c.add_row-in-loop-i-2.ensures

pub returns : goal.returns
returns c =
    let l = c.loop-i-2 in
    let h : c.args.w < 2 ^ 32 = search rules in
    rippled_last c.args.w l.i _ _ _ _ (omega arith) h l.invariant
