-- The first i blocks stand in the rows.
use Rattle.sixteen.proofs.Names.{Held, block_at, words}
use Rattle.sixteen.proofs.FewBlocks.load.Given as goal

abbrev pub invariant-loop-i : goal.invariant-loop-i
invariant-loop-i l = Held l.i (λ k. words (block_at l.src k)) l.self.x
