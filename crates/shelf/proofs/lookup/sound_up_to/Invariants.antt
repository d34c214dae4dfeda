-- How far the walk has come; what it has still before it is what is behind the bytes passed.
use Rattle.shelf.proofs.Names.{◌≡◌, heads, heads_left, length}
use Rattle.shelf.proofs.ReadsProper.{between}
use Rattle.shelf.proofs.Sound.{Passing}
use Rattle.shelf.proofs.lookup.sound_up_to.Given as goal

abbrev pub invariant-loop-head : goal.invariant-loop-head
invariant-loop-head l =
    Passing l.s l.at × (heads_left l.head-iterator ≡ heads (between l.at (length l.s) l.s))
