-- The first i blocks are stored, and behind them stands what stood there.
use Rattle.block.proofs.Base.{◌*◌, ◌≡◌, ◌++◌, drop}
use Rattle.block.specs.Blocks.{cat}
use Rattle.rows.proofs.Storing.{xored_row}
use Rattle.rows.proofs.Batch.store_xored.Given as goal

abbrev pub invariant-loop-i : goal.invariant-loop-i
invariant-loop-i l = l.out ≡ cat l.i (xored_row l.self.high l.self.low l.with) ++ drop (16 * l.i) l.initial.out
