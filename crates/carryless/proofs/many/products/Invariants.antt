-- The first g products are there.
use Rattle.std.proofs.Common.{◌≡◌, length, get_or}
use Rattle.carryless.specs.Carryless.{clmul}
use Rattle.carryless.specs.Lanes.{Each}
use Rattle.carryless.proofs.many.products.Given as goal

abbrev pub invariant-loop-g : goal.invariant-loop-g
invariant-loop-g l = (length l.z ≡ 16) × Each (λ g. clmul 32 (get_or l.x g 0) l.y) l.g l.z
