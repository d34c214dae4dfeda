-- What the round keys that are left make of the blocks as they are is what all round keys make of the blocks as they were.
use Rattle.sliced.proofs.Names.{◌%◌, ◌<◌, ◌≡◌, block_in, length, rounds, ℕ}
use Rattle.sliced.proofs.Planes.all_rounds.Given as goal

abbrev pub invariant-loop-k : goal.invariant-loop-k
invariant-loop-k l =
    let left = l.k-iterator in
    (left.size ≡ 4) × (length left.rest.now % 4 ≡ 0)
    × ((e : ℕ) → e < 512 → e % 8 < l.n → rounds left.rest.now (block_in l.self e) ≡ rounds l.fn.rk (block_in l.initial.self e))
