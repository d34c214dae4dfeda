-- The first j words are there.
use Rattle.sixteen.proofs.Names.{Each, keyed}
use Rattle.sixteen.proofs.rounds.keyed_words.Given as goal

abbrev pub invariant-loop-j : goal.invariant-loop-j
invariant-loop-j l = Each (keyed l.x l.i l.k) l.j l.t
