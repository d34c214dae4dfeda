-- The blocks of the first s sets are hashed, and the hashes are elements.
use Rattle.ghash.proofs.Names.{Element, Hashed, Starts, ◌*◌, ◌<◌, ◌≡◌, block_number, gpow, lane, up_to, value, ℕ}
use Rattle.ghash.proofs.interleaved.absorb_sets.Given as goal

abbrev pub invariant-loop-s : goal.invariant-loop-s
invariant-loop-s l =
    ((k : ℕ) → k < l.n → Element (lane l.hashes k))
    × ((h y : ℕ) → Element h → value l.p.number ≡ gpow h l.n → Starts l.n y (lane l.fn.hashes)
    → Hashed h y (up_to (l.n * l.s) (block_number l.bytes)) l.n (lane l.hashes))
