-- The product, times the square to what is left of n, is a to the n.
use Rattle.field.proofs.Names.{Element, ◌≡◌, gmul, gpow, value}
use Rattle.field.proofs.power.Given as goal

abbrev pub invariant-loop-rest : goal.invariant-loop-rest
invariant-loop-rest l =
    Element (value l.product)
    × Element (value l.square)
    × (gmul (value l.product) (gpow (value l.square) l.rest) ≡ gpow (value l.initial.square) l.n)

abbrev pub decreases-loop-rest : goal.decreases-loop-rest
decreases-loop-rest l = l.rest
