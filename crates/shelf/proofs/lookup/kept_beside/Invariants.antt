-- What the heads from here on say, with what was kept so far, is what all of them say.
use Rattle.shelf.proofs.Names.{Some, ◌+◌, ◌≡◌, heads_left, length, not_higher, records, stays, stored, those}
use Rattle.shelf.proofs.Walks.{reaching, sizes, staying}
use Rattle.std.specs.List.{filter, list_any}
use Rattle.shelf.proofs.lookup.kept_beside.Given as goal

abbrev pub invariant-loop-head : goal.invariant-loop-head
invariant-loop-head l =
    (list_any (reaching l.job l.edition) (heads_left l.head-iterator) ≡ not_higher l.job l.edition (records l.used))
    × (l.kept + sizes (filter (staying (Some l.job)) (heads_left l.head-iterator))
    ≡ length (stored (those (stays (Some l.job)) (records l.used))))
