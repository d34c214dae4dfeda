-- The walk has come behind 64 blocks a turn, and its state is the block before.
use Rattle.cbc.proofs.Names.{Reached, ◌*◌, ◌++◌, cbc_decrypt, drop, reverse, take, unwords}
use Rattle.cbc.proofs.decrypt_side_by_side.Given as goal

abbrev pub invariant-loop-i : goal.invariant-loop-i
invariant-loop-i l =
    let s = unwords l.iv in
    Reached (cbc_decrypt (reverse l.back)) s l.«data» l.initial.out (take 16 (drop (1024 * l.i) (s ++ l.«data»))) l.out (1024 * l.i)
