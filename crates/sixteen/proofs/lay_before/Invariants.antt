-- The first i blocks are laid, and behind them stands what stood there.
use Rattle.sixteen.proofs.Names.{◌*◌, ◌++◌, ◌≡◌, block_at, cat, drop, unwords}
use Rattle.sixteen.proofs.lay_before.Given as goal

abbrev pub invariant-loop-i : goal.invariant-loop-i
invariant-loop-i l = l.out ≡ cat l.i (block_at (unwords l.iv ++ l.«data»)) ++ drop (16 * l.i) l.initial.out
