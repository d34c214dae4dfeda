-- Byte b is done in the first j columns.
use Rattle.sliced.proofs.Names.{subbed}
use Rattle.sliced.proofs.Columns.{Columns}
use Rattle.sliced.proofs.sub_byte.Given as goal

abbrev pub invariant-loop-j : goal.invariant-loop-j
invariant-loop-j l = Columns (subbed l.x l.y l.z l.k) l.n l.b l.j l.s
