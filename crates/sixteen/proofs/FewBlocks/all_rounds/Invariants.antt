-- What the round keys from number i on make of the blocks as they are, is what all round keys make of the blocks as they were.
use Rattle.sixteen.proofs.Names.{◌<◌, ◌≡◌, block, drop, rounds, ℕ}
use Rattle.sixteen.proofs.FewBlocks.all_rounds.Given as goal

abbrev pub invariant-loop-i : goal.invariant-loop-i
invariant-loop-i l = (j : ℕ) → j < l.n → rounds (drop l.i l.fn.rk) (block l.self.x l.i j) ≡ rounds l.fn.rk (block l.initial.self.x 0 j)
