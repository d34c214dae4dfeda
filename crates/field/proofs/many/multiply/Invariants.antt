-- The first g elements are there.
use Rattle.field.proofs.Names.{Both, joining128, lane, times_xs}
use Rattle.field.proofs.many.multiply.Given as goal

abbrev pub invariant-loop-g : goal.invariant-loop-g
invariant-loop-g l = Both (λ g. times_xs 127 (joining128 (lane l.high g) (lane l.low g) (lane l.both g))) l.g l.x
