-- The keys are looked at one after another.
use Rattle.journal.proofs.Names.{Keys, List, Sm4Cipher, Some, [], ◌∙◌, ◌∷◌, ◌≡◌, ◌≤◌, any_retired, arith, bad_keys}
use Rattle.journal.proofs.Names.{by_test, eq-eqb, false, has_number, key_found, key_number, le-ltb, length, lt-ltb}
use Rattle.journal.proofs.Names.{ltb-false, ltb-true, ne_eqb, place_of, refl, suc, sym, ℕ}
use Rattle.std.specs.Prelude.{is_some}
use Rattle.std.specs.List.{list_any}
use Rattle.journal.proofs.Cases.{or_left}

-- the first of the keys has the number, or those behind it tell
module _ (n : ℕ) (c : Sm4Cipher) (cs : List Sm4Cipher) where
  pub found_here : key_number c ≡ n → key_found n (c ∷ cs) ≡ Some c
  unfolding place_of
  found_here h = rw (eq-eqb (key_number c) n h, lt-ltb 0 (length (c ∷ cs)) (omega arith))

  same_place : (key_number c ≡ n → ⊥) → place_of n (c ∷ cs) ≡ suc (place_of n cs)
  unfolding place_of
  same_place h = rw (ne_eqb (key_number c) n h) (omega arith)

  same_test : (key_number c ≡ n → ⊥) → has_number n (c ∷ cs) ≡ has_number n cs
  same_test h =
      let e = same_place h in
      by_test (has_number n cs) (λ t. let k = ltb-true (place_of n cs) (length cs) t in lt-ltb (place_of n (c ∷ cs)) (length (c ∷ cs)) (omega arith) ∙ sym t)
      (λ t. let k = ltb-false (place_of n cs) (length cs) t in le-ltb (place_of n (c ∷ cs)) (length (c ∷ cs)) (omega arith) ∙ sym t)

  pub found_behind : (key_number c ≡ n → ⊥) → key_found n (c ∷ cs) ≡ key_found n cs
  found_behind h = rw (same_test h, same_place h)

pub found_tells : (n : ℕ) (cs : List Sm4Cipher) → is_some (key_found n cs) ≡ has_number n cs
found_tells n cs = by_test (has_number n cs) (λ e. rw e) (λ e. rw e)

pub retired-any : (cs : List Sm4Cipher) → any_retired cs ≡ list_any (λ c. c.retired) cs
unfolding any_retired
retired-any [] = refl
retired-any (c ∷ cs) = rw (retired-any cs)

pub few-keys : (k : Keys) → bad_keys k ≡ false → k.count ≤ 8
unfolding bad_keys
few-keys k e = ltb-false 8 k.count (or_left _ _ e)
