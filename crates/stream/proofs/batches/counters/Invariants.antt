-- The walk has come to `at`, with the bytes before it written.
use Rattle.stream.proofs.Names.{Reached, ◌-◌, counting, length, stream_mode, unwords}
use Rattle.stream.proofs.batches.counters.Given as goal

abbrev pub invariant-loop-at : goal.invariant-loop-at
invariant-loop-at l = Reached (stream_mode (counting l.wide) l.rk) (unwords l.initial.s) l.«data» l.initial.out (unwords l.s) l.out l.at

abbrev pub decreases-loop-at : goal.decreases-loop-at
decreases-loop-at l = length l.«data» - l.at
