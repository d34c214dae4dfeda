-- The part, or an empty one.
use Rattle.shelf.proofs.Names.{List, None, Option, Some, [], ◌+◌, ◌∙◌, ◌≡◌, ◌≤◌, ap, arith, by_test, cond, drop, length, length-drop, lt-ltb, ltb}
use Rattle.shelf.proofs.Names.{ltb-true, part_of, sub-zero, sym, take, ℕ}
use Rattle.std.proofs.Common.{Bor, MatchOption, drop_of_length-le}
use Rattle.std.specs.Prelude.{unwrap_or}
use Rattle.std.proofs.lemmas.List.{take_rest}
use Rattle.shelf.proofs.part.Goals as goal

-- what both answers of `get` make of the part
either : (r : Option (Bor (List ℕ))) (e : Bor (List ℕ)) (l : List ℕ) {P : Type 0} {Q : Bor (List ℕ) → Type 0} → MatchOption r P Q
    → (P → e.now ≡ l) → ((x : Bor (List ℕ)) → Q x → x.now ≡ l) → (unwrap_or r e).now ≡ l
either None e l h none some = none h
either (Some x) e l h none some = some x h

-- where the start is past the end, the part is empty too
inside : (s : List ℕ) (n m : ℕ) → m ≤ length (drop n s) → take m (drop n s) ≡ cond (ltb (length s) (n + m)) [] (take m (drop n s))
inside s n m h =
    by_test (ltb (length s) (n + m))
    (λ e. let z : m ≡ 0 = omega (arith, ltb-true (length s) (n + m) e, length-drop n s) in rw (e, z)) (λ e. rw e)

-- a refusal has none
pub returns-in_default : goal.returns-in_default
unfolding part_of
returns-in_default c =
    rw c.in_default.is (by_test (ltb (length c.args.shelf.now) 0) (λ e. rw e) (λ e. rw e))

pub returns : goal.returns
unfolding part_of
returns c =
    let s = c.args.shelf.now in
    let n = c.in-Ok.found.start in
    let m = c.in-Ok.found.length in
    let d = length-drop n s in
    let behind : c.unwrap_or-behind.result.now ≡ drop n s =
    ap (λ (x : Bor (List ℕ)). x.now) c.unwrap_or-behind.ensures
    ∙ either c.get.result _ (drop n s) c.get.ensures.lookup.0 (λ p. sym (drop_of_length-le s (omega arith))) (λ x q. q.2 ∙ take_rest s n) in
    let l : length c.unwrap_or-behind.result.now ≡ length (drop n s) = ap length behind in
    rw c.in-Ok.is
    (ap (λ (x : Bor (List ℕ)). x.now) c.unwrap_or.ensures
    ∙ either c.get-2.result _ _ c.get-2.ensures.lookup.0 (λ p. rw (lt-ltb (length s) (n + m) (omega arith)))
    (λ x q. q.2 ∙ rw (behind, sub-zero) (inside s n m (omega arith))))
