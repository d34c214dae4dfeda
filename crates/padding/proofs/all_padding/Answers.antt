-- `padding::all_padding` meets its contract: what a turn adds is the first of the differences that are left (`difference_turn`), and all of
-- them come to 0 exactly where the last n bytes all hold n (`padding_test`).
use Rattle.block.proofs.Base.{◌≡◌, arith, rules, get_or, length, w8, Fits}
use Rattle.padding.proofs.AllPadding.{differences, difference_le, difference_turn, none_left, padding_test}
use Rattle.padding.proofs.all_padding.Goals as goal

pub loop-i-preserved : goal.loop-i-preserved
loop-i-preserved c =
    let l = c.loop-i in
    let byte : Fits w8 (get_or c.args.last l.i 0) = search rules in
    let turn = difference_turn c.args.n l.i c.args.last (omega arith) in
    let small = difference_le c.args.n l.i (get_or c.args.last l.i 0) (omega arith) (omega arith) byte.fits in
    rw c.from.ensures (record { sixteen = omega arith; small = omega arith; left = omega arith })

pub returns : goal.returns
returns c =
    let l = c.loop-i in
    let i : l.i ≡ length c.args.last = omega arith in
    let e : l.differ ≡ differences c.args.n 0 c.args.last = omega (arith, none_left c.args.n c.args.last, rw i at l.invariant.left) in
    rw e (padding_test c.args.n c.args.last (omega arith) l.invariant.sixteen)
