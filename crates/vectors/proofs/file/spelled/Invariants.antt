-- What is spelled so far stands in front of what is read.
use Rattle.std.proofs.Common.{◌≤◌}
use Rattle.vectors.proofs.file.spelled.Given as goal

abbrev pub invariant-loop-i : goal.invariant-loop-i
invariant-loop-i l = l.n ≤ l.i
