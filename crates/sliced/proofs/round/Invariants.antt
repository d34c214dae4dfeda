-- s holds what the S-boxes make of the first q bytes.
use Rattle.sliced.proofs.Names.{Held, ◌*◌, subbed}
use Rattle.sliced.proofs.round.Given as goal

abbrev pub invariant-loop-q : goal.invariant-loop-q
invariant-loop-q l = Held (subbed l.b l.c l.d l.k) l.n (64 * l.q) l.s
