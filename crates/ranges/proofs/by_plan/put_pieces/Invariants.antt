-- What stands in the output is what the single call gives of the text up to `at`, and the pieces to come follow one another from there to the
-- text's end.
use Rattle.ranges.proofs.Names.{Ctr, ◌≡◌, ◌≤◌, chain, length, over, stream_mode, take, true}
use Rattle.ranges.proofs.Following.{follows_from}
use Rattle.ranges.proofs.by_plan.put_pieces.Given as goal

abbrev pub invariant-loop-start : goal.invariant-loop-start
invariant-loop-start l =
    let p = l.fn.plan in
    record {
      can : (goal.iterator-loop-start).can_next l.start-iterator;
      finite : (goal.iterator-loop-start).is_finite l.start-iterator;
      within : l.at ≤ length l.«data»;
      follow : follows_from p.starts p.lengths p.count (length l.«data») (length l.yielded) l.at ≡ true;
      written : l.out ≡ over (chain (stream_mode Ctr l.rk) l.iv (take l.at l.«data»)) l.fn.out;
    }
