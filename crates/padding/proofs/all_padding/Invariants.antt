-- The differences that are added, and those that the bytes from i on will add, are those of the whole block.
use Rattle.block.proofs.Base.{◌*◌, ◌+◌, ◌≤◌, ◌≡◌, drop, length}
use Rattle.padding.proofs.AllPadding.{differences}
use Rattle.padding.proofs.all_padding.Given as goal

abbrev pub invariant-loop-i : goal.invariant-loop-i
invariant-loop-i l = record {
  sixteen : length l.byte-items ≡ 16;
  small : l.differ ≤ 255 * l.i;
  left : l.differ + differences l.n l.i (drop l.i l.byte-items) ≡ differences l.n 0 l.fn.last;
}
