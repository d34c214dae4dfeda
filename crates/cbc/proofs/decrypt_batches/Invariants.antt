-- Whatever walk has come behind the first block has come to `at`.
use Rattle.cbc.proofs.Names.{Fed, ◌-◌, cbc_decrypt, length, reverse}
use Rattle.cbc.proofs.decrypt_batches.Given as goal

abbrev pub invariant-loop-at : goal.invariant-loop-at
invariant-loop-at l = Fed (cbc_decrypt (reverse l.back)) l.«data» l.initial.out l.out l.at

abbrev pub decreases-loop-at : goal.decreases-loop-at
decreases-loop-at l = length l.«data» - l.at
