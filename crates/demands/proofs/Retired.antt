-- Keys that open and no longer seal: a retired key encrypts nothing and decrypts as it did, and there is no way back.
use Rattle.demands.specs.Names as N
use N.{◌+◌, CipherMode, Checked, and_then, Bool, true, List, [], ◌++◌, ◌∷◌, map, ◌≢◌, ◌≡◌, refl, subst, sym, suc, zero, ℕ, arith, eqb, ltb}
use N.{length, take, eq-eqb, eqb-false, eqb-true, ne_eqb, block_call, mode_call, block_check, key_and_iv, message_check, retired_check}
use N.{Ctr as CtrMode, Gcm, Encrypt, Sm4Cipher, Ok, ctr_start, opens_start, seal_start, gcm_starting, CtrState as Ctr, Seal}
use N.{search_check, which, plan_call, range_call, range_check, reach_check, any_retired, bad_keys, replay, host_block_call, host_mode_call}
use N.{host_ctr_start, host_opens_start, host_seal_start, host_replay, keys_of, cipher_in, host_key_engine, host_key_retire, key_answer_of}
use N.{host_ctr_by_plan, host_ctr_range, host_which, LuossavinKey}
use Rattle.block.proofs.Same.{by_test}
use Rattle.cipher_mode.proofs.Passed.{both, key-and-iv_passed}
use Rattle.demands.specs.Retired.{StaysRetired, DecryptsAlike, EncryptsNothing}
use Rattle.demands.proofs.Through.{host_through, zero_passed, block_through, passed_start}
use mathlib.Core.Bool.{or-true}

-- a record with the mark, and with an answer
abbrev pub marked_with : ℕ → LuossavinKey → LuossavinKey
marked_with a k = record { round_keys = k.round_keys; answer = a; number = k.number; retired = 1; engine = k.engine }

-- A key that is retired keeps all but the mark;
abbrev pub retired_of : LuossavinKey → LuossavinKey
retired_of k = marked_with 0 k

pub retired-key : (k : LuossavinKey) → k.answer ≡ 0 → host_key_retire k ≡ retired_of k
unfolding host_key_retire
retired-key k e = rw (eq-eqb k.answer 0 e)

-- of no key it is the same no key;
pub retired_no_key : (k : LuossavinKey) → k.answer ≢ 0 → host_key_retire k ≡ k
unfolding host_key_retire
retired_no_key k n = rw (ne_eqb k.answer 0 n)

-- so what holds of either holds of what is retired;
pub retired_by : (P : LuossavinKey → Type 0) (k : LuossavinKey) → (k.answer ≡ 0 → P (retired_of k)) → (k.answer ≢ 0 → P k)
    → P (host_key_retire k)
retired_by P k of-key of_none =
    by_test (eqb k.answer 0) (λ e. let z = eqb-true k.answer 0 e in subst P (sym (retired-key k z)) (of-key z))
    (λ e. let n = eqb-false k.answer 0 e in subst P (sym (retired_no_key k n)) (of_none n))

-- twice is once;
pub retired_twice : (k : LuossavinKey) → host_key_retire (host_key_retire k) ≡ host_key_retire k
retired_twice k = retired_by (λ l. host_key_retire l ≡ l) k (λ _. retired-key (retired_of k) refl) (retired_no_key k)

-- and there is no way back: no call hands back an unretired record for a retired one. Setting up a key makes a new one.
pub stays-retired : StaysRetired host_key_retire
stays-retired k r = retired_by (λ l. l.retired ≢ 0) k (λ _ z. omega arith) (λ _. r)

pub engine_stays-retired : (e : ℕ) → StaysRetired (λ k. host_key_engine k e)
unfolding host_key_engine
engine_stays-retired e k r = r

-- Decryption does not look at the mark.
alike : (k : LuossavinKey) → k.answer ≡ 0 → DecryptsAlike k (retired_of k)
unfolding cipher_in key_answer_of host_block_call block_call block_check host_mode_call mode_call message_check key_and_iv host_ctr_start
    ctr_start host_opens_start opens_start gcm_starting host_which which search_check host_ctr_range range_call range_check reach_check
    host_ctr_by_plan plan_call
alike k e = subst (λ (a : ℕ). DecryptsAlike k (marked_with a k)) e (search)

pub retired_decrypts_alike : (k : LuossavinKey) → DecryptsAlike k (host_key_retire k)
retired_decrypts_alike k = retired_by (DecryptsAlike k) k (alike k) (λ _. search)

-- And nothing is encrypted under a retired record, whatever else it holds.
not_allowed : (r : Bool) → r ≡ true → retired_check Encrypt r ≡ Ok tt → ⊥
not_allowed r e p = let z : ◌≡◌ {A = ℕ} 0 1 = cc in omega arith

-- no check passes that begins with such a key
module _ (c : Sm4Cipher) (r : c.retired ≡ true) (m : CipherMode) (n : ℕ) where
  no_start : key_and_iv c.answer c.retired Encrypt m n ≡ Ok tt → ⊥
  no_start p = not_allowed c.retired r (key-and-iv_passed c.answer c.retired Encrypt m n p).may

  no_more : (next : Checked) → and_then (key_and_iv c.answer c.retired Encrypt m n) next ≡ Ok tt → ⊥
  no_more next p = no_start (both (key_and_iv c.answer c.retired Encrypt m n) next p).0

-- a retired key among those of a replay
taken : (n : ℕ) (ks : List LuossavinKey) → take n (map cipher_in ks) ≡ map cipher_in (take n ks)
taken zero ks = refl
taken (suc n) [] = refl
taken (suc n) (k ∷ ks) = rw (taken n ks)

among : (before : List LuossavinKey) (k : LuossavinKey) (after : List LuossavinKey) → (cipher_in k).retired ≡ true
    → any_retired (map cipher_in (before ++ (k ∷ after))) ≡ true
unfolding any_retired
among [] k after r = rw r
among (j ∷ before) k after r = rw (among before k after r) (or-true (cipher_in j).retired)

pub retired_encrypts_nothing : (k : LuossavinKey) → k.retired ≢ 0 → EncryptsNothing k
unfolding cipher_in host_block_call host_ctr_start ctr_start host_seal_start seal_start gcm_starting host_ctr_range range_call range_check
    host_ctr_by_plan plan_call reach_check host_replay replay keys_of bad_keys
retired_encrypts_nothing k n =
    let c = cipher_in k in
    let r : (cipher_in k).retired ≡ true = rw (ne_eqb k.retired 0 n) in
    record {
      block = λ b o e. not_allowed c.retired r (block_through Encrypt c b o e).may;
      message = λ mode label d iv o e. not_allowed c.retired r (host_through Encrypt mode k label d iv o e).1.may;
      ctr = λ iv e. no_start c r CtrMode (length iv) (passed_start Ctr _ _ _ e);
      seal = λ label iv e. no_more c r Gcm (length iv) _ (passed_start Seal _ _ _ e);
      range = λ iv offset d o e.
          let reach = reach_check c.answer c.retired Encrypt (length iv) (offset + length d) in
          no_more c r CtrMode (length iv) _ (both reach _ (zero_passed _ o _ e)).0;
      by_plan = λ iv plan d o e. no_more c r CtrMode (length iv) _ (zero_passed _ o _ e);
      replay = λ keys before after journal e.
          rw (taken keys.count keys.keys, e, among before k after r, or-true (ltb 8 keys.count));
    }
