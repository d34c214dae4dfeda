-- The first g numbers are there.
use Rattle.std.proofs.Common.{get_or}
use Rattle.carryless.specs.Carryless.{joining}
use Rattle.carryless.specs.Lanes.{Both}
use Rattle.carryless.proofs.many.products64.Given as goal

abbrev pub invariant-loop-g : goal.invariant-loop-g
invariant-loop-g l = Both (λ g. joining (get_or l.p g 0) (get_or l.q g 0) (get_or l.r g 0)) l.g l.z
