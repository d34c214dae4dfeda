-- The first i bytes are xored, and the rest of the output is as it was lent.
use Rattle.sixteen.proofs.Names.{◌++◌, ◌≡◌, drop, take, xors}
use Rattle.sixteen.proofs.xor_bytes.Given as goal

abbrev pub invariant-loop-i : goal.invariant-loop-i
invariant-loop-i l = l.out ≡ xors (take l.i l.«data») l.pads ++ drop l.i l.initial.out
