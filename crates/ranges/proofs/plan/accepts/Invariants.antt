-- The pieces so far reach `at`, which is not past `n`, and whether those to come follow one another from there decides.
use Rattle.ranges.proofs.Names.{◌≡◌, ◌≤◌, length}
use Rattle.ranges.proofs.Following.{follows_from}
use Rattle.ranges.proofs.plan.accepts.Given as goal

abbrev pub invariant-loop-start : goal.invariant-loop-start
invariant-loop-start l =
    let p = l.fn.plan in
    record {
      can : (goal.iterator-loop-start).can_next l.start-iterator;
      finite : (goal.iterator-loop-start).is_finite l.start-iterator;
      within : l.at ≤ l.n;
      decides : follows_from p.starts p.lengths p.count l.n (length l.yielded) l.at ≡ follows_from p.starts p.lengths p.count l.n 0 0;
    }
