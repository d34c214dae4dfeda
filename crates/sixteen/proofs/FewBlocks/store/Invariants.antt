-- The first i blocks are stored, and behind them stands what stood there.
use Rattle.sixteen.proofs.Names.{◌*◌, ◌++◌, ◌≡◌, block, cat, drop, turned, unwords}
use Rattle.sixteen.proofs.FewBlocks.store.Given as goal

abbrev pub invariant-loop-i : goal.invariant-loop-i
invariant-loop-i l = l.out ≡ cat l.i (λ k. unwords (turned (block l.self.x 0 k))) ++ drop (16 * l.i) l.initial.out
