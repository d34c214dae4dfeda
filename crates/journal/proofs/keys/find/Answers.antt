-- The key at the index decides, or those behind it.
use Rattle.journal.proofs.Names.{List, Sm4Cipher, Some, ◌+◌, ◌<◌, ◌∙◌, ◌∷◌, ◌≡◌, add-one, ap, drop, drop-cons, get_or, key_found, key_number, length, sym, ℕ}
use Rattle.journal.proofs.KeyTurns.{found_here, found_behind}
use Rattle.journal.proofs.keys.find.Goals as goal

module _ (n i : ℕ) (ks : List Sm4Cipher) (d : Sm4Cipher) (h : i < length ks) where
  split : drop i ks ≡ get_or ks i d ∷ drop (i + 1) ks
  split = rw (add-one i) (drop-cons ks i d h)

  here : key_number (get_or ks i d) ≡ n → key_found n (drop i ks) ≡ key_found n ks → Some (get_or ks i d) ≡ key_found n ks
  here e f = sym (ap (key_found n) split ∙ found_here n (get_or ks i d) (drop (i + 1) ks) e) ∙ f

  behind : (key_number (get_or ks i d) ≡ n → ⊥) → key_found n (drop (i + 1) ks) ≡ key_found n (drop i ks)
  behind e = sym (ap (key_found n) split ∙ found_behind n (get_or ks i d) (drop (i + 1) ks) e)

pub returns-then-number_of-number : goal.returns-then-number_of-number
returns-then-number_of-number c =
    here c.args.number _ _ _ c.loop-key-test.true (sym c.number_of.ensures ∙ c.if-number_of-number.true) c.loop-key.invariant

pub loop-key-preserved : goal.loop-key-preserved
loop-key-preserved c =
    behind c.args.number _ _ _ c.loop-key-test.true (λ e. c.if-number_of-number.false (c.number_of.ensures ∙ e)) ∙ c.loop-key.invariant
