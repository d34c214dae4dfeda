-- The first i groups are swapped, and what stands behind them is as it was.
use Rattle.rows.specs.Transposed.{Staged}
use Rattle.rows.proofs.stage.Given as goal

abbrev pub invariant-loop-i : goal.invariant-loop-i
invariant-loop-i l = Staged l.d l.m l.w l.i l.initial.a l.a
