-- The first i blocks are taken in.
use Rattle.ghash.proofs.Names.{Absorbed, block_number, up_to}
use Rattle.ghash.proofs.Ghash.absorb_each.Given as goal

abbrev pub invariant-loop-i : goal.invariant-loop-i
invariant-loop-i l = Absorbed l.initial.state (up_to l.i (block_number l.bytes)) l.state
