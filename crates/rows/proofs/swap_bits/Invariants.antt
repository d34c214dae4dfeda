-- The first e pairs are swapped, all other words are as they were.
use Rattle.rows.specs.Transposed.{Swapped}
use Rattle.rows.proofs.swap_bits.Given as goal

abbrev pub invariant-loop-e : goal.invariant-loop-e
invariant-loop-e l = Swapped l.d l.m l.g l.w l.e l.initial.a l.a
