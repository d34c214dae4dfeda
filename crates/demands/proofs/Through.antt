-- What a call that answered 0 had in order, what a call leaves that has all in order, and how a record crosses the boundary.
use Rattle.demands.specs.Names as N
use N.{false, List, ◌≡◌, refl, ℕ, arith, eqb, ltb, length, take-append_seam, eq-eqb, le-ltb, Outcome, done, keyed, block_call, block_of}
use N.{lengths_of, mode_call, mode_result, block_check, checked, key_and_iv, message_check, room_check, key_head, key_number, new_cipher}
use N.{retire, mode_of, room_of, Direction, KeyAnswer, NoKey as ErrorBlockSize, Key, NoNumber as WrongNumber, Sm4Cipher, Sm4CipherMode}
use N.{Checked, Ok, Err, begun, host_mode_call, mode_in, cipher_in, host_key_new, host_key_retire, key_answer_of, key_of}
use N.{LuossavinKey}
use Rattle.block.proofs.Same.{by_test}
use Rattle.cipher_mode.proofs.Passed.{InOrder, BlockInOrder, message_passed, block_passed}
use Rattle.cipher_mode.proofs.Refusals.{refuses}
use Rattle.demands.specs.Call.{result}
use Rattle.demands.proofs.Answering.{mark_back}

pub result-of-done : (p o : List ℕ) → result (done p o) ≡ p
result-of-done p o = take-append_seam p _

pub zero_passed : (k : Checked) (o : List ℕ) (next : Outcome) → (checked k o next).head.number ≡ 0 → k ≡ Ok tt
zero_passed (Ok _) o next _ = refl
zero_passed (Err r) o next e = absurd ((refuses r).not-zero e)

-- a start that answers 0 has passed
pub passed_start : (S : Type 0) (k : Checked) (shut : ℕ → S) (s : S) → (begun S k shut s).head.number ≡ 0 → k ≡ Ok tt
passed_start S (Ok _) shut s _ = refl
passed_start S (Err r) shut s e = absurd ((refuses r).not-zero e)

-- a single block
module _ (dir : Direction) (c : Sm4Cipher) (b o : List ℕ) where
  pub block_through : (block_call dir c b o).head.number ≡ 0 → BlockInOrder c.answer c.retired dir (length b) (length o)
  unfolding block_call
  block_through e = block_passed _ _ _ _ _ (zero_passed _ o _ e)

  pub block-leaves : BlockInOrder c.answer c.retired dir (length b) (length o)
      → block_call dir c b o ≡ keyed (key_number c) (done (block_of dir c.rk b) o)
  unfolding block_call block_check
  block-leaves p = rw (p.key, eq-eqb (length b) 16 p.size, p.may, le-ltb (length o) 16 p.enough)

-- a message
module _ (dir : Direction) (m : Sm4CipherMode) (aad d iv o : List ℕ) where
  pub through : (mode_call dir m aad d iv o).head.number ≡ 0
      → InOrder m.cipher.answer m.cipher.retired dir m.mode (lengths_of aad d iv o)
  unfolding mode_call
  through e = message_passed _ _ _ _ _ (zero_passed _ o _ e)

  pub leaves : InOrder m.cipher.answer m.cipher.retired dir m.mode (lengths_of aad d iv o)
      → mode_call dir m aad d iv o ≡ keyed (key_number m.cipher) (mode_result m.mode dir m.cipher.rk aad d iv o)
  unfolding mode_call message_check key_and_iv room_check
  leaves p =
      rw (p.key, p.iv-size, p.may, p.label, p.content, le-ltb (length o) (room_of m.mode dir (length d)) p.room)

-- and an exported call: a mode number above 4 is refused before all else
module _ (dir : Direction) (mode : ℕ) (k : LuossavinKey) (aad d iv o : List ℕ) where
  abbrev pub Ready : Type 0
  Ready = (ltb 4 mode ≡ false) × InOrder (cipher_in k).answer (cipher_in k).retired dir (mode_of mode) (lengths_of aad d iv o)

  pub host_through : (host_mode_call dir mode k aad d iv o).head.number ≡ 0 → Ready
  unfolding host_mode_call
  host_through e =
      by_test (ltb 4 mode) (λ f. absurd (omega (arith, rw f at e))) (λ f. (f, through dir (mode_in k mode) aad d iv o (rw f at e)))

  pub host_leaves : Ready → host_mode_call dir mode k aad d iv o
      ≡ keyed (key_number (cipher_in k)) (mode_result (mode_of mode) dir k.round_keys aad d iv o)
  unfolding host_mode_call cipher_in
  host_leaves (b, p) = rw b (leaves dir (mode_in k mode) aad d iv o p)

-- An exported call is the call on the record that the host holds, unless its mode number is refused. A record crosses the boundary
-- and back as it is.

answer_back : (a : KeyAnswer) → key_answer_of (key_head a).number ≡ a
unfolding key_answer_of
answer_back Key = refl
answer_back ErrorBlockSize = refl
answer_back WrongNumber = refl

-- a record that was handed out comes back as it was
pub handed_back : (c : Sm4Cipher) → cipher_in (key_of c) ≡ c
unfolding cipher_in key_of
handed_back c = rw (answer_back c.answer, mark_back c.retired)

-- so what a host set up is the key's record
pub new_is_new : (key : List ℕ) (n : ℕ) → cipher_in (host_key_new key n) ≡ new_cipher key n
unfolding host_key_new
new_is_new key n = handed_back (new_cipher key n)

-- and what it retires is that record retired
pub retired_is_retired : (k : LuossavinKey) → cipher_in (host_key_retire k) ≡ retire (cipher_in k)
unfolding cipher_in key_answer_of host_key_retire retire
retired_is_retired k =
    by_test (eqb k.answer 0) (λ e. rw e) (λ e. by_test (eqb k.answer 13) (λ f. rw (e, f) (rw e)) (λ f. rw (e, f) (rw e)))
