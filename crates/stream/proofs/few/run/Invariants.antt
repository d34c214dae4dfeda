-- The walk has come behind 64 blocks a turn.
use Rattle.stream.proofs.Names.{Reached, ◌*◌, kind_of, stream_mode, unwords}
use Rattle.stream.proofs.few.run.Given as goal

abbrev pub invariant-loop-i : goal.invariant-loop-i
invariant-loop-i l =
    Reached (stream_mode (kind_of l.kind) l.rk) (unwords l.initial.s) l.«data» l.initial.out (unwords l.s) l.out (1024 * l.i)
