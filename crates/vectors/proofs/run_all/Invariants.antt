-- No more vectors differ than were run, so that the count does not wrap.
use Rattle.std.proofs.Common.{◌≤◌}
use Rattle.vectors.proofs.run_all.Given as goal

abbrev pub invariant-loop-before : goal.invariant-loop-before
invariant-loop-before l = l.differ ≤ l.before-counter
