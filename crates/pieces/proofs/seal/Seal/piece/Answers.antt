-- `pieces::seal::Seal::piece` meets its contract: what the checks refuse leaves output and state, and otherwise the flow runs on
-- and what it wrote, as many bytes as the piece has (`text-length`), is hashed.
use Rattle.pieces.proofs.Names.{GcmCounting, ◌%◌, ◌≡◌, arith, flow_text, length, length-take-le, rules, over, seal_piece, sym, take, take_at}
use Rattle.pieces.proofs.KeyStream.{text-length}
use Rattle.pieces.proofs.Passing.{sum_fits, writing_passed}
use Rattle.pieces.proofs.seal.Seal.piece.Goals as goal

pub run-flow-requires-clause-data_in_bounds : goal.run-flow-requires-clause-data_in_bounds
run-flow-requires-clause-data_in_bounds c = (writing_passed _ _ _ _ _ _ (sym c.in_default.ensures)).1

pub slice_bounds-take_in-end : goal.slice_bounds-take_in-end
slice_bounds-take_in-end c =
    let room = (writing_passed _ _ _ _ _ _ (sym c.in_default.ensures)).1 in omega (arith, room)

pub slice_bounds-take_in-end-2 : goal.slice_bounds-take_in-end-2
slice_bounds-take_in-end-2 c =
    let room = (writing_passed _ _ _ _ _ _ (sym c.in_default.ensures)).1 in
    sym (length-take-le (length c.args.«data».now) c.run-flow.new.out (omega (arith, room)))

pub overflow_add-result : goal.overflow_add-result
overflow_add-result c = sum_fits (writing_passed _ _ _ _ _ _ (sym c.in_default.ensures)).0

pub returns : goal.returns
unfolding seal_piece
returns c =
    let s = c.args.self in
    let d = c.args.«data».now in
    let sixteen : length s.flow.pad ≡ 16 = search rules in
    let text = flow_text GcmCounting s.rk s.flow (s.total % 16) d in
    let n = text-length GcmCounting s.rk s.flow (s.total % 16) d sixteen (omega arith) in
    let written : take (length d) (over text (c.args.out.now)) ≡ text = take_at text _ (length d) n in
    let ran = c.run-flow.ensures in
    rw (← c.in_default.ensures, c.done.ensures, c.take_in.ensures, ran.value, ran.out_after)
    (rw written)
