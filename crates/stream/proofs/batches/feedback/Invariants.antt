-- Whatever walk has come behind the first block has come to `at`.
use Rattle.stream.proofs.Names.{CfbDecrypt, Fed, ◌-◌, length, stream_mode}
use Rattle.stream.proofs.batches.feedback.Given as goal

abbrev pub invariant-loop-at : goal.invariant-loop-at
invariant-loop-at l = Fed (stream_mode CfbDecrypt l.rk) l.«data» l.initial.out l.out l.at

abbrev pub decreases-loop-at : goal.decreases-loop-at
decreases-loop-at l = length l.«data» - l.at
