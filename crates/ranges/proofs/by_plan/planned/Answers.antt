-- Where the key, the IV or the length refused, or the plan is not accepted, or the room is short, so says the definition; where none did, the
-- pieces gave what the single call gives.
use Rattle.ranges.proofs.Names.{Ctr, le-ltb, length-stream, sym, zero-add}
use Rattle.ranges.proofs.Passed.{reach_passed}
use Rattle.ranges.proofs.by_plan.planned.Goals as goal

pub put_pieces-requires-clause-iv_len : goal.put_pieces-requires-clause-iv_len
put_pieces-requires-clause-iv_len c = reach_passed _ _ _ _ _ (sym (rw zero-add at c.in_ok-reach.ensures))

pub returns : goal.returns
returns c =
    let a = c.args in
    rw (
      ← (rw zero-add at c.in_ok-reach.ensures),
      ← c.accepts.ensures,
      c.if-not-accepts.false,
      le-ltb _ _ c.if-out-n.false,
      c.put_pieces.ensures,
      length-stream Ctr a.cipher.rk (a.iv.now) (a.«data».now),
    )
