-- Demand 1: every call ends with an answer. A refusal reports length 0 and leaves the output as it was lent; a success reports
-- the length of the table of lengths and leaves what lies past it as it was lent. For all inputs.
use Rattle.demands.specs.Names as N
use N.{suc, zero, NoKey, NoNumber, cond, false, not, true, List, ◌≢◌, ◌⊎◌, ⊎_elim, ◌∙◌, ◌≡◌, refl, ◌<◌, ◌≤◌, ℕ, arith, eqb, ltb, length}
use N.{eq-eqb, le-ltb, lt-ltb, ne_eqb, done, refusal, refusal_head, block_call, block_of, lengths_of, mode_call, mode_result, block_check}
use N.{data_check, key_and_iv, key_check, message_check, wrong_iv, key_number, new_cipher, new_cipher_mode, wrong_number, mode_of, room_of}
use N.{CipherMode, Cbc, Cfb, Ctr, Gcm, Ofb, Direction, Decrypt, Encrypt, Refusal, ErrorBlockSize, WrongNumber, Ok, Err, ctr_start}
use N.{opens_start, seal_start, gcm_starting, search_check, which, plan_call, range_call, range_check, reach_check, call_into}
use N.{host_block_call, host_mode_call, host_ctr_start, host_opens_start, host_seal_start, cipher_in, host_key_new, key_answer_of}
use N.{host_ctr_by_plan, host_ctr_range, host_which, LuossavinKey}
use Rattle.block.proofs.Same.{by_test}
use Rattle.demands.proofs.ModesBack.{encrypted, encrypts, length_encrypted, opening}
use Rattle.cipher_mode.proofs.Passed.{message_passed, block_passed}
use Rattle.cipher_mode.proofs.Ends.{length-block}
use Rattle.demands.specs.Answered.{one_of, single_numbers, Answered, KeyAnswered, length_of}
use Rattle.demands.proofs.Through.{new_is_new}
use mathlib.Core.Bool.{or-true}
use Rattle.cipher_mode.specs.Key.{no_cipher}
use Rattle.demands.specs.WhichNumber.{block_rows, encrypt_rows, decrypt_rows}
use Rattle.demands.proofs.WhichNumber.{exported_block-number, exported_encryption_number, exported_decryption_number}
use Rattle.demands.proofs.Answering.{within, numbered, Fair, answered, refused_fair, done_fair, checks_fair, front_fair}
use Rattle.demands.specs.NoUsableKey.{NoUsableKey}

-- where one of the two ends of the range is passed, the number is wrong
out_of_range : (n : ℕ) → (n ≡ 0) ⊎ (65535 < n) → wrong_number n ≡ true
out_of_range n = ⊎_elim (λ e. rw e) (λ h. rw (lt-ltb 65535 n h) (or-true (eqb n 0)))

-- Setting up a key answers 0 of 16 bytes and a number in range, 1 of any other number of bytes, and otherwise 13, with length 0. The
-- record is unretired, and where it is a key's its number is the one given.
pub new_cipher_answers : (key : List ℕ) (n : ℕ) → KeyAnswered key n (new_cipher key n)
unfolding new_cipher
new_cipher_answers key n =
    record {
      done = λ e l h. rw (eq-eqb (length key) 16 e, ne_eqb n 0 (λ z. omega arith), le-ltb 65535 n h) (refl, refl, refl);
      refused = λ e. rw (ne_eqb (length key) 16 e);
      out_of_range = λ e o. rw (eq-eqb (length key) 16 e, out_of_range n o);
      fresh = by_test (not (eqb (length key) 16)) (λ e. rw e) (λ e. by_test (wrong_number n) (λ f. rw (e, f)) (λ f. rw (e, f)));
    }

-- Setting up a key with a mode answers the same, and so does a host's.
pub new_cipher_mode-answers : (key : List ℕ) (n : ℕ) (mode : CipherMode) → KeyAnswered key n (new_cipher_mode key n mode).cipher
unfolding new_cipher_mode
new_cipher_mode-answers key n mode = new_cipher_answers key n

pub exported_new-answers : (key : List ℕ) (n : ℕ) → KeyAnswered key n (cipher_in (host_key_new key n))
exported_new-answers key n = rw (new_is_new key n) (new_cipher_answers key n)

-- The exported call on one block, either way: a refusal, or a success of 16 bytes.
pub block-answers : (dir : Direction) (k : LuossavinKey) (b o : List ℕ)
    → Answered single_numbers (key_number (cipher_in k)) o 16 (host_block_call dir k b o)
unfolding host_block_call block_call
block-answers dir k b o =
    let c = cipher_in k in
    let block = block_of dir c.rk b in
    let size = length-block dir c.rk b in
    answered o 16 single_numbers _ _
    (numbered (block_rows dir k b o) single_numbers _
    (elim dir as (λ (r : Direction). within (block_rows r k b o) single_numbers ≡ true) [ Encrypt ↦ refl | Decrypt ↦ refl ])
    (exported_block-number dir k b o)) refl
    (checks_fair o 16 (block_check c.answer c.retired dir (length b) (length o)) (done block o) (λ e.
    done_fair o 16 block _ refl size (rw size (block_passed _ _ _ _ _ e).enough)))

-- what the modes give, either way
result_fair : (m : CipherMode) (dir : Direction) (rk aad d iv o : List ℕ) → wrong_iv m (length iv) ≡ false
    → data_check dir m (length d) ≡ Ok tt → room_of m dir (length d) ≤ length o
    → let x = mode_result m dir rk aad d iv o in Fair o (length_of m dir rk iv d) x.head x.bytes
result_fair m Encrypt rk aad d iv o n e r =
    let size = length_encrypted m rk aad d iv in
    let same : room_of m Encrypt (length d) ≡ length_of m Encrypt rk iv d =
    elim m as (λ (w : CipherMode). room_of w Encrypt (length d) ≡ length_of w Encrypt rk iv d)
    [ Cfb ↦ refl | Ofb ↦ refl | Ctr ↦ refl | Cbc ↦ refl | Gcm ↦ refl ] in
    rw (encrypts m rk aad d iv o) (done_fair o _ (encrypted m rk aad d iv) _ refl (size ∙ same) (omega arith))
result_fair m Decrypt rk aad d iv o n e r =
    let fits : length_of m Decrypt rk iv d ≤ room_of m Decrypt (length d) =
    elim m as (λ (w : CipherMode). length_of w Decrypt rk iv d ≤ room_of w Decrypt (length d))
    [ Cfb ↦ omega arith | Ofb ↦ omega arith | Ctr ↦ omega arith | Cbc ↦ omega arith | Gcm ↦ omega arith ] in
    ⊎_elim (λ (k, some, x). rw x (refused_fair o _ k some))
    (λ t. let size = t.size in rw t.opened (done_fair o _ t.text _ refl size (omega arith))) (opening rk aad d iv o m n e)

-- The exported call on a message, either way: a refusal, or a success of as many bytes as the table says; a mode number over 4 is one
-- refusal more, before any key stands.
pub message-answers : (dir : Direction) (mode : ℕ) (k : LuossavinKey) (label d iv o : List ℕ)
    → Answered single_numbers (cond (ltb 4 mode) 0 (key_number (cipher_in k))) o (length_of (mode_of mode) dir k.round_keys iv d)
    (host_mode_call dir mode k label d iv o)
unfolding host_mode_call mode_call cipher_in
message-answers dir mode k label d iv o =
    let c = cipher_in k in
    let m = mode_of mode in
    let n = length_of m dir k.round_keys iv d in
    answered o n single_numbers _ _
    (elim dir as (λ (r : Direction). one_of (host_mode_call r mode k label d iv o).head.number single_numbers ≡ true) [
      | Encrypt ↦ numbered (encrypt_rows mode k label d iv o) single_numbers _ refl (exported_encryption_number mode k label d iv o)
      | Decrypt ↦ numbered (decrypt_rows mode k label d iv o) single_numbers _ refl (exported_decryption_number mode k label d iv o)
    ])
    (by_test (ltb 4 mode) (λ e. rw e) (λ e. rw e))
    (front_fair o n (ltb 4 mode) 7 _ (omega arith) (λ _.
    checks_fair o n (message_check c.answer c.retired dir m (lengths_of label d iv o)) (mode_result m dir c.rk label d iv o) (λ e.
    let p = message_passed _ _ _ _ _ e in
    result_fair m dir c.rk label d iv o p.iv-size p.content p.room)))

-- Demand 1, of keys: a key that was refused is no usable key.

-- by what the check of the key says
module _ (k : LuossavinKey) (n : ℕ) (r : Refusal) (check : key_check (cipher_in k).answer ≡ Err r) (head : refusal_head r ≡ refusal n)
    (none : key_number (cipher_in k) ≡ 0) where
  turned_away : NoUsableKey n k
  unfolding host_block_call block_call block_check host_mode_call mode_call message_check key_and_iv host_ctr_start ctr_start
      host_seal_start seal_start gcm_starting host_opens_start opens_start host_which which search_check host_ctr_range range_call
      range_check reach_check host_ctr_by_plan plan_call call_into
  turned_away =
      record {
        block = λ dir b o. rw (check, head, none);
        message = λ dir mode h label d iv o. rw (le-ltb 4 mode h, check, head, none);
        ctr = λ decrypt iv. rw (check, head, none);
        sealing = λ label iv. rw (check, head, none);
        opening = λ label iv. rw (check, head, none);
        which = λ file iv labels lengths good. rw (good, check, head, none);
        range = λ decrypt iv offset d o. rw (check, head, none);
        by_plan = λ decrypt iv plan d o. rw (check, head, none);
        replay = λ keys e named h. rw (le-ltb 4 e.mode h, named, check, head, none);
      }

-- Whatever else a host's record holds: where its answer is not 0, every call on it answers 13 if that is 13, and otherwise 1.
pub no_usable_key : (k : LuossavinKey) → k.answer ≢ 0 → NoUsableKey (cond (eqb k.answer 13) 13 1) k
unfolding cipher_in key_answer_of
no_usable_key k n =
    let some = ne_eqb k.answer 0 n in
    by_test (eqb k.answer 13) (λ e. rw e (turned_away k 13 WrongNumber (rw (some, e)) refl (rw (some, e))))
    (λ e. rw e (turned_away k 1 ErrorBlockSize (rw (some, e)) refl (rw (some, e))))

-- A key that is not 16 bytes gives a record on which every call answers 1.
pub wrong_size-key_unusable : (key : List ℕ) (n : ℕ) → length key ≢ 16 → NoUsableKey 1 (host_key_new key n)
unfolding new_cipher
wrong_size-key_unusable key n s =
    let e : cipher_in (host_key_new key n) ≡ no_cipher NoKey = new_is_new key n ∙ rw (ne_eqb (length key) 16 s) in
    turned_away (host_key_new key n) 1 ErrorBlockSize (rw e) refl (rw e)

-- A number out of range, 13.
pub wrong_number_unusable : (key : List ℕ) (n : ℕ) → length key ≡ 16 → (n ≡ 0) ⊎ (65535 < n) → NoUsableKey 13 (host_key_new key n)
unfolding new_cipher
wrong_number_unusable key n s r =
    let e : cipher_in (host_key_new key n) ≡ no_cipher NoNumber = new_is_new key n ∙ rw (eq-eqb (length key) 16 s, out_of_range n r) in
    turned_away (host_key_new key n) 13 WrongNumber (rw e) refl (rw e)

-- Demand 1, of labels: outside Gcm two calls that differ only in the label have the same outcome, however long it is.

-- The exported call of every mode number but 4, either way, has the same outcome under any two labels.
pub label_ignored : (dir : Direction) (mode : ℕ) → mode ≢ 4 → (k : LuossavinKey) (a₁ a₂ d iv o : List ℕ)
    → host_mode_call dir mode k a₁ d iv o ≡ host_mode_call dir mode k a₂ d iv o
unfolding host_mode_call mode_call message_check mode_of
label_ignored dir zero n k a₁ a₂ d iv o = refl
label_ignored dir (suc zero) n k a₁ a₂ d iv o = refl
label_ignored dir (suc (suc zero)) n k a₁ a₂ d iv o = refl
label_ignored dir (suc (suc (suc zero))) n k a₁ a₂ d iv o = refl
label_ignored dir (suc (suc (suc (suc zero)))) n k a₁ a₂ d iv o = absurd (n refl)
label_ignored dir (suc (suc (suc (suc (suc m))))) n k a₁ a₂ d iv o = rw (lt-ltb 4 (suc (suc (suc (suc (suc m))))) (omega arith))
