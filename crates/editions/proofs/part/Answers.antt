-- The part, or an empty one.
use Rattle.block.proofs.Base.{List, [], ◌+◌, ◌∙◌, ◌≡◌, ◌≤◌, ap, arith, cond, drop, length, length-drop, lt-ltb, ltb, ltb-true, sub-zero, sym, take, ℕ}
use Rattle.block.proofs.Same.{by_test}
use Rattle.std.proofs.Common.{Bor, Err, MatchOption, None, Ok, Option, Result, Some, drop_of_length-le, refl}
use Rattle.std.specs.Prelude.{unwrap_or}
use Rattle.std.proofs.lemmas.List.{take_rest}
use Rattle.std.specs.Option.{option_flatten}
use Rattle.std.specs.Result.{result_ok}
use Rattle.editions.specs.Which.{found_verdict, part_of, verdict_of}
use Rattle.editions.specs.declared.Candidate.{Candidate}
use Rattle.editions.specs.declared.Found.{Found}
use Rattle.editions.specs.declared.Unanswered.{Unanswered}
use Rattle.editions.proofs.part.Goals as goal

-- what both answers of `get` make of the part
either : (r : Option (Bor (List ℕ))) (e : Bor (List ℕ)) (l : List ℕ) {P : Type 0} {Q : Bor (List ℕ) → Type 0} → MatchOption r P Q
    → (P → e.now ≡ l) → ((x : Bor (List ℕ)) → Q x → x.now ≡ l) → (unwrap_or r e).now ≡ l
either None e l h none some = none h
either (Some x) e l h none some = some x h

-- where the start is past the end, the part is empty too
inside : (s : List ℕ) (n m : ℕ) → m ≤ length (drop n s) → take m (drop n s) ≡ cond (ltb (length s) (n + m)) [] (take m (drop n s))
inside s n m h =
    by_test (ltb (length s) (n + m))
    (λ e. let z : m ≡ 0 = omega (arith, ltb-true (length s) (n + m) e, length-drop n s) in rw (e, z)) (λ e. rw e)

-- the part that an answer points to: that of its candidate, if it has one
there : (labels : List ℕ) (e : Result (Option Candidate) Unanswered) (key : ℕ)
    → part_of (verdict_of (record { ended = e; key = key })) labels ≡ part_of (found_verdict (option_flatten (result_ok e))) labels
unfolding part_of
there labels (Ok None) key = refl
there labels (Ok (Some c)) key = refl
there labels (Err e) key = refl

-- by what was found
by_found : (labels : List ℕ) (found : Found) {o : Option Candidate} {r : Option (Option Candidate)} → r ≡ result_ok found.ended
    → o ≡ option_flatten r → part_of (verdict_of found) labels ≡ part_of (found_verdict o) labels
by_found labels found e f = there labels found.ended found.key ∙ rw (f, e)

pub returns-in_default : goal.returns-in_default
unfolding part_of
returns-in_default c = sym (by_found c.args.labels.now c.args.found {o = None} c.ok.ensures.value c.in_default.ensures)

pub returns : goal.returns
unfolding part_of
returns c =
    let s = c.args.labels.now in
    let n = c.in-Some.candidate.start in
    let m = c.in-Some.candidate.length in
    let d = length-drop n s in
    let behind : c.unwrap_or-behind.result.now ≡ drop n s =
    ap (λ (x : Bor (List ℕ)). x.now) c.unwrap_or-behind.ensures
    ∙ either c.get.result _ (drop n s) c.get.ensures.lookup.0 (λ p. sym (drop_of_length-le s (omega arith))) (λ x q. q.2 ∙ take_rest s n) in
    let l : length c.unwrap_or-behind.result.now ≡ length (drop n s) = ap length behind in
    ap (λ (x : Bor (List ℕ)). x.now) c.unwrap_or.ensures
    ∙ either c.get-2.result _ _ c.get-2.ensures.lookup.0 (λ p. rw (lt-ltb (length s) (n + m) (omega arith)))
    (λ x q. q.2 ∙ rw (behind, sub-zero) (inside s n m (omega arith)))
    ∙ sym (by_found s c.args.found {o = Some c.in-Some.candidate} c.ok.ensures.value c.in-Some.ensures)
