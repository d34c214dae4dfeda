-- A turn takes one word off the end of those that are left (`one_off`). All eight are joined in the end (`joined`), and each has room in a
-- word (`doubled_fits`).
use Rattle.cipher.proofs.Names.{List, [], ◌++◌, ◌*◌, ◌+◌, ◌-◌, ◌<◌, ◌^◌, ◌∷◌, ◌≡◌, ◌∙◌, ap, arith, four_lanes, get_or, length, rules, ℕ}
use Rattle.cipher.proofs.FourLanes.{LeftOf, doubled, doubled_fits, four_lanes-le, joined, one_off}
use Rattle.std.proofs.lemmas.List.{length_push}
use Rattle.cipher.proofs.gates.four_bytes.Goals as goal

room : (o left rest : List ℕ) (x w : ℕ) → left ≡ rest ++ x ∷ [] → LeftOf o left w → w * 2 + 0x01010101 < 2 ^ 32
room o left rest x w e h =
    let n : length left ≡ length rest + 1 = ap length e ∙ length_push rest x in
    rw h.2 (doubled_fits (8 - length left) (λ i. four_lanes (get_or o i 0)) (λ i. four_lanes-le (get_or o i 0)) (omega (arith, n, h.0)))

pub loop-x-init : goal.loop-x-init
loop-x-init c = search rules

pub overflow_mul-w : goal.overflow_mul-w
overflow_mul-w c = record { fits = omega (arith, room _ _ _ _ _ c.in-Some.ensures.steps c.loop-x.invariant) }

pub overflow_add-w : goal.overflow_add-w
overflow_add-w c = record { fits = omega (arith, room _ _ _ _ _ c.in-Some.ensures.steps c.loop-x.invariant, c.four_lanes.ensures.1) }

pub loop-x-preserved : goal.loop-x-preserved
loop-x-preserved c = rw c.four_lanes.ensures.0 (one_off _ _ _ _ _ c.in-Some.ensures.steps c.loop-x.invariant)

pub returns : goal.returns
returns c =
    let e : 8 - length c.loop-x.x-iterator.iter.rest.now ≡ 8 = omega (arith, c.in-None.ensures.steps.0) in
    c.loop-x.invariant.2 ∙ ap (λ (k : ℕ). doubled k (λ i. four_lanes (get_or c.args.o i 0))) e ∙ joined c.args.o
