-- Lists of two lengths are not the same; of one length, a pair of bytes tells.
use Rattle.journal.proofs.Names.{ap, arith, rules, ◌∙◌, ◌≡◌, Bool, List, [], ◌∷◌, false, true, refl, length, ℕ, ne_eqb, sym}
use Rattle.std.specs.Prelude.{not, ◌&&◌, ◌||◌, nat_eq}
use Rattle.std.specs.List.{list_any, zip}
use Rattle.std.proofs.lemmas.Grind.{common_steps}
use Rattle.std.proofs.lemmas.Iterator.Search.{any_from_yields_List}
use Rattle.std.proofs.lemmas.Iterator.{YieldsList-from_slice, YieldsList-from_zip}
use Rattle.block.specs.Same.{same}
use Rattle.block.proofs.Same.{same_not}
use Rattle.journal.proofs.again.other.Goals as goal

-- one of two tests fails
not-both : (p q : Bool) → (not p || not q) ≡ not (p && q)
not-both true q = refl
not-both false q = refl

pairs : (a b : List ℕ) → length a ≡ length b → list_any (λ p. not (nat_eq p.0 p.1)) (zip a b) ≡ not (same a b)
unfolding same
pairs [] [] h = refl
pairs [] (y ∷ b) h = cc
pairs (x ∷ a) [] h = cc
pairs (x ∷ a) (y ∷ b) h = rw (pairs a b cc) (not-both (nat_eq x y) (same a b))

lengths : (a b : List ℕ) → (length a ≡ length b → ⊥) → not (nat_eq (length a) (length b)) ≡ not (same a b)
lengths a b h = ap not (ne_eqb _ _ h ∙ sym (same_not a b (λ e. h (ap length e))))

pub returns-then-a-b : goal.returns-then-a-b
returns-then-a-b c = lengths _ _ c.if-a-b.true

pub returns-else-a-b : goal.returns-else-a-b
returns-else-a-b c =
    any_from_yields_List (λ p. not (nat_eq p.0 p.1)) c.any.new.self _ _ c.any.ensures.ran
    (YieldsList-from_zip (YieldsList-from_slice c.args.a.now cc) (YieldsList-from_slice c.args.b.now cc))
    (λ x r q k. search rules)
    ∙ pairs c.args.a.now c.args.b.now (grind (arith, common_steps))
