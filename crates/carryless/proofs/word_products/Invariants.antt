-- The first k products are there.
use Rattle.std.proofs.Common.{◌≡◌, length, get_or}
use Rattle.carryless.specs.Carryless.{clmul}
use Rattle.carryless.specs.Lanes.{Each}
use Rattle.carryless.proofs.word_products.Given as goal

abbrev pub invariant-loop-k : goal.invariant-loop-k
invariant-loop-k l = (length l.z ≡ 9) × Each (λ i. clmul 32 (get_or l.a i 0) (get_or l.b i 0)) l.k l.z
