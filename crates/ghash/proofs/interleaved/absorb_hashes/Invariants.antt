-- The first k hashes are taken in.
use Rattle.ghash.proofs.Names.{Absorbed, lane, up_to}
use Rattle.ghash.proofs.interleaved.absorb_hashes.Given as goal

abbrev pub invariant-loop-k : goal.invariant-loop-k
invariant-loop-k l = Absorbed l.initial.state (up_to l.k (lane l.hashes)) l.state
