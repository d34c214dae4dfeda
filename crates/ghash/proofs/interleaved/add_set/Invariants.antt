-- To the first k hashes their blocks are added, and these are elements; the others are as they were.
use Rattle.ghash.proofs.Names.{Both, Element, ◌<◌, ◌≡◌, ◌≤◌, ◌⊕◌, block_number, lane, ℕ}
use Rattle.ghash.proofs.interleaved.add_set.Given as goal

abbrev pub invariant-loop-k : goal.invariant-loop-k
invariant-loop-k l =
    Both (λ j. lane l.initial.hashes j ⊕ block_number l.bytes j) l.k l.hashes
    × ((j : ℕ) → j < l.k → Element (lane l.hashes j))
    × ((j : ℕ) → l.k ≤ j → lane l.hashes j ≡ lane l.initial.hashes j)
