-- The rounds that are left, from where it is, give what all rounds give from the start.
use Rattle.cipher.proofs.Names.{◌%◌, ◌≡◌, drop, length, rounds}
use Rattle.cipher.proofs.round_map.encrypt.Given as goal

abbrev pub invariant-loop-k : goal.invariant-loop-k
invariant-loop-k g l = rounds (drop l.k-index l.four) l.x ≡ rounds l.four l.initial.x

abbrev pub invariant-loop-four : goal.invariant-loop-four
invariant-loop-four g l =
    let left = l.four-iterator in (left.size ≡ 4) × (length left.rest.now % 4 ≡ 0) × (rounds left.rest.now l.x ≡ rounds l.fn.rk l.initial.x)
