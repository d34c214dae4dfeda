-- What is found from here on is what is found of all, and the bytes passed are within those of the records.
use Rattle.shelf.proofs.Names.{◌+◌, ◌≡◌, ◌≤◌, current_in, heads, heads_left, length}
use Rattle.shelf.proofs.Walks.{sizes}
use Rattle.shelf.proofs.lookup.current.Given as goal

abbrev pub invariant-loop-head : goal.invariant-loop-head
invariant-loop-head l =
    (current_in l.job l.start (heads_left l.head-iterator) ≡ current_in l.job 0 (heads l.used))
    × (l.start + sizes (heads_left l.head-iterator) ≤ length l.used)
