-- The walk has come behind i blocks.
use Rattle.cbc.proofs.Names.{Reached, ◌*◌, unwords}
use Rattle.cbc.proofs.one_by_one.Given as goal

abbrev pub invariant-loop-i : goal.invariant-loop-i
invariant-loop-i g l = Reached (g.W.Way.mode l.rk) (unwords l.initial.s) l.«data» l.initial.out (unwords l.s) l.out (16 * l.i)
