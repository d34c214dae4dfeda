-- Each word's parts are those that a call of `quarters` gave.
use Rattle.std.proofs.Common.{ℕ, [], ◌≡◌, ◌<◌, ◌∙◌, arith, get_or, map, refl, rules, sym}
use Rattle.std.proofs.lemmas.List.{ext_get_or, get_or-map}
use Rattle.carryless.specs.Lent.{quarters, words128}
use Rattle.carryless.proofs.parts.Goals as goal

pub returns : goal.returns
returns c =
    let calls = c.map.ensures.items in
    let w = words128 c.args.y in
    let at : (k : ℕ) → k < 9 → get_or c.map.result k [] ≡ get_or (map quarters w) k [] =
    λ k h.
    let call = (calls.at k 0 [] h).2 in
    let e : get_or c.map.result k [] ≡ quarters (get_or c.words_of.result k 0) = search (rules, call) in
    e ∙ rw c.words_of.ensures.0 (sym (get_or-map quarters w k 0 [] h)) in
    let words = ext_get_or [] c.map.result (map quarters w) calls.long (λ k h. let l : k < 9 = omega (arith, calls.long) in at k l) in
    (record { words = words }, refl)
