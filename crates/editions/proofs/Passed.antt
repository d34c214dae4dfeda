-- What is known where nothing was refused.
use Rattle.block.proofs.Base.{◌≤◌, ℕ, ◌≡◌, Bool, false, List, eqb-true, ltb-false, not-false, ltb, length}
use Rattle.cipher_mode.specs.declared.KeyAnswer.{KeyAnswer}
use Rattle.cipher_mode.specs.declared.KeyAnswer.TheVariants.{Key}
use Rattle.cipher_mode.specs.declared.CipherMode.TheVariants.{Gcm}
use Rattle.cipher_mode.specs.declared.Direction.TheVariants.{Decrypt}
use Rattle.std.proofs.Common.{Ok}
use Rattle.cipher_mode.specs.Checks.{wrong_iv, key_and_iv, data_check}
use Rattle.cipher_mode.proofs.Passed.{let_through, both, key-and-iv_passed}
use Rattle.editions.specs.Candidates.{sum, bad_list, any_too_long}
use Rattle.editions.specs.Which.{search_check}
use Rattle.editions.proofs.Turns.{or-false}

-- a list that is not bad
module _ (labels lengths : List ℕ) (good : bad_list labels lengths ≡ false) where
  pub at_most_64 : length lengths ≤ 64
  unfolding bad_list
  at_most_64 = ltb-false 64 (length lengths) (or-false _ _ good).0

  pub adds_up : sum lengths ≡ length labels
  unfolding bad_list
  adds_up = eqb-true (sum lengths) (length labels) (not-false _ (or-false (ltb 64 (length lengths)) _ good).1)

-- a search that goes on to look at tags
pub record InOrder (a : KeyAnswer) (iv file : ℕ) (lengths : List ℕ) : Type 0 where
  pub key : a ≡ Key
  pub iv-size : wrong_iv Gcm iv ≡ false
  pub short : any_too_long lengths ≡ false
  pub content : data_check Decrypt Gcm file ≡ Ok tt

pub search_passed : (a : KeyAnswer) (retired : Bool) (iv file : ℕ) (lengths : List ℕ)
    → search_check a retired iv file lengths ≡ Ok tt → InOrder a iv file lengths
unfolding search_check
search_passed a retired iv file lengths e =
    let from_key = both (key_and_iv a retired Decrypt Gcm iv) _ e in
    let from-labels = let_through (any_too_long lengths) _ _ from_key.1 in
    let first = key-and-iv_passed a retired Decrypt Gcm iv from_key.0 in
    record { key = first.key; iv-size = first.iv-size; short = from-labels.fails; content = from-labels.rest }
