-- The walk has come behind i blocks.
use Rattle.stream.proofs.Names.{Reached, ◌*◌, stream_mode, unwords}
use Rattle.stream.proofs.one_by_one.Given as goal

abbrev pub invariant-loop-i : goal.invariant-loop-i
invariant-loop-i l = Reached (stream_mode l.kind l.rk) (unwords l.initial.s) l.«data» l.initial.out (unwords l.s) l.out (16 * l.i)
