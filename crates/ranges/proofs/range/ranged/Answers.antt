-- Where the key, the IV, the end of the stretch or the room refused, so does the definition; where they did not, the stretch was written
-- and is as long as the data.
use Rattle.ranges.proofs.Names.{le-ltb, lt-ltb, range_check, sym}
use Rattle.ranges.proofs.Passed.{reach_passed}
use Rattle.ranges.proofs.Jumped.{length-stretch}
use Rattle.std.proofs.lemmas.Result.{err_from_is_err_and}
use Rattle.ranges.proofs.range.ranged.Goals as goal

pub returns-in_err-reach : goal.returns-in_err-reach
unfolding range_check
returns-in_err-reach c =
    let p = err_from_is_err_and c.from_residual.result c.from_residual.ensures.1 in rw (p.1, p.2, ← c.in_err-reach.ensures)

pub returns-then-out-length : goal.returns-then-out-length
unfolding range_check
returns-then-out-length c = rw (← c.in_ok-reach.ensures, lt-ltb _ _ c.if-out-length.true)

pub put_stretch-requires-clause-iv_len : goal.put_stretch-requires-clause-iv_len
put_stretch-requires-clause-iv_len c = reach_passed _ _ _ _ _ (sym c.in_ok-reach.ensures)

pub returns : goal.returns
unfolding range_check
returns c =
    let a = c.args in
    rw (← c.in_ok-reach.ensures, le-ltb _ _ c.if-out-length.false, c.put_stretch.ensures, length-stretch a.cipher.rk (a.iv.now) a.offset (a.«data».now))
