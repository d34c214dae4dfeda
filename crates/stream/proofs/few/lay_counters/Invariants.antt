-- The first i counters are laid, and behind them stands what stood there.
use Rattle.stream.proofs.Names.{◌*◌, ◌++◌, ◌≡◌, cat, drop, jumped, unwords}
use Rattle.stream.proofs.few.lay_counters.Given as goal

abbrev pub invariant-loop-i : goal.invariant-loop-i
invariant-loop-i l = l.out ≡ cat l.i (jumped l.wide (unwords l.c)) ++ drop (16 * l.i) l.initial.out
