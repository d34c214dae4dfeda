-- The first i blocks stand in rows.
use Rattle.block.specs.Blocks.{block_at}
use Rattle.block.specs.Words.{words}
use Rattle.rows.specs.Rows.{Rows}
use Rattle.rows.proofs.Batch.load.Given as goal

abbrev pub invariant-loop-i : goal.invariant-loop-i
invariant-loop-i l = Rows l.i (λ k. words (block_at l.src k)) l.self.high l.self.low
