-- What has been added and the lengths to come are together all of them, and what has been added fits.
use Rattle.block.proofs.Base.{◌+◌, ◌<◌, ◌^◌, ◌≡◌, drop}
use Rattle.editions.specs.Candidates.{sum}
use Rattle.editions.proofs.total.Given as goal

abbrev pub invariant-loop-length : goal.invariant-loop-length
invariant-loop-length l = (l.total < 2 ^ 64) × (l.total + sum (drop l.length-index l.lengths) ≡ sum l.lengths)
