-- The first of the keys to come decides, or those behind it.
use Rattle.journal.proofs.Names.{Bool, List, Option, Sm4Cipher, key_found, [], ◌∷◌, ◌∙◌, ◌≡◌, false, has_number, key_number, length, number_twice, arith, refl, sym, true, ℕ}
use Rattle.std.specs.Prelude.{is_some}
use Rattle.journal.proofs.KeyTurns.{found_tells}
use Rattle.journal.proofs.keys.number_twice.Goals as goal

module _ (k : Sm4Cipher) (ks all : List Sm4Cipher) (e : all ≡ k ∷ ks) where
  twice : has_number (key_number k) ks ≡ true → true ≡ number_twice all
  unfolding number_twice
  twice f = rw (e, f)

  once : has_number (key_number k) ks ≡ false → number_twice ks ≡ number_twice all
  unfolding number_twice
  once f = rw (e, f)

told : (n k : ℕ) (o : Option Sm4Cipher) (cs : List Sm4Cipher) (b : Bool) → n ≡ k → o ≡ key_found n cs → b ≡ is_some o
    → has_number k cs ≡ b
told n k o cs b e f g = sym (found_tells k cs) ∙ rw (← e, ← f) (sym g)

none : (all : List Sm4Cipher) → length all ≡ 0 → false ≡ number_twice all
unfolding number_twice
none [] h = refl
none (k ∷ ks) h = absurd (omega arith)

pub returns-then-is_some : goal.returns-then-is_some
returns-then-is_some c =
    twice _ _ _ c.in-Some.ensures.cases.0 (told _ _ _ _ _ c.number_of.ensures c.find.ensures c.if-is_some.ensures)
    ∙ c.loop-key.invariant

pub loop-key-preserved : goal.loop-key-preserved
loop-key-preserved c =
    once _ _ _ c.in-Some.ensures.cases.0 (told _ _ _ _ _ c.number_of.ensures c.find.ensures c.if-is_some.ensures)
    ∙ c.loop-key.invariant

pub returns : goal.returns
returns c = none _ c.in_default.ensures.cases ∙ c.loop-key.invariant
