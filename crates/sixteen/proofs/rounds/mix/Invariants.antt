-- The first j words are changed, the others are as they were.
use Rattle.sixteen.proofs.Names.{Changed, L, ◌+◌, ◌⊕◌, get_or, row}
use Rattle.sixteen.proofs.rounds.mix.Given as goal

abbrev pub invariant-loop-j : goal.invariant-loop-j
invariant-loop-j l = Changed (row l.i) l.j (λ k. get_or l.initial.x (row l.i + k) 0 ⊕ L (get_or l.s k 0)) l.initial.x l.x
