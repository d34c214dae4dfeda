-- The first g words are there.
use Rattle.std.proofs.Common.{◌≡◌, ◌/◌, ◌%◌, ◌^◌, length, get_or}
use Rattle.block.specs.Xor.{◌⊕◌}
use Rattle.carryless.specs.Lanes.{Each}
use Rattle.carryless.proofs.many.halves.Given as goal

abbrev pub invariant-loop-g : goal.invariant-loop-g
invariant-loop-g l =
    (length l.high ≡ 16) × (length l.low ≡ 16) × (length l.both ≡ 16)
    × Each (λ g. get_or l.x g 0 / 2 ^ 32) l.g l.high
    × Each (λ g. get_or l.x g 0 % 2 ^ 32) l.g l.low
    × Each (λ g. get_or l.x g 0 % 2 ^ 32 ⊕ get_or l.x g 0 / 2 ^ 32) l.g l.both
