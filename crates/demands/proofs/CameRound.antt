-- Counters: those of a 12-byte IV in Gcm are SP 800-38D's, and what the answers say of a counter. J0 has sixteen bytes, whatever the IV
-- has.
use Rattle.demands.specs.Names as N
use N.{Bool, cond, false, true, List, [], ◌∷◌, ◌∙◌, ◌≡◌, ap, refl, ◌%◌, ◌+◌, ◌-◌, ◌/◌, ◌<◌, ◌^◌, ◌≤◌, ℕ, arith, eqb, ltb, length}
use N.{length-append, drop_at, length-take-le, take_at, eq-eqb, eqb-false, eqb-true, lt-leb, AreBytes, bytes_of, number_of, same, xors}
use N.{blocks_of, ctr_came_round, gcm_came_round, gcm_next, last_four, Head, finished, refusal, telling, under, ctr_walk_says}
use N.{gcm_walk_says, J0, first_counter, hash_key, sealed, text_of, text_part, block_call, mode_call, mode_result, limit_of, mode_of}
use N.{CipherMode, Ctr, Gcm, Direction, Decrypt, Encrypt, Checked, Ok, Err, ctr_end, ctr_piece, ctr_start, opens_end, opens_piece}
use N.{opens_start, seal_end, seal_piece, seal_start, hash_end, CtrState, Opens, Seal, bad_list, which, plan_call, range_call, Plan}
use N.{host_block_call, host_mode_call, host_ctr_start, host_opens_start, accepts, not, host_seal_start, cipher_in, host_ctr_by_plan}
use N.{host_ctr_range, host_which, LuossavinKey, ⊎_elim, data_check, wrong_iv}
use Rattle.block.proofs.Convert.{length-bytes_of, bytes_of-bytes}
use Rattle.demands.specs.CameRound.{followed_by, CountsFromTwo, round_of, Says}
use Rattle.demands.proofs.Through.{result-of-done, host_through, host_leaves}
use Rattle.block.proofs.Entries.{below-append}
use Rattle.block.proofs.Same.{by_test}
use Rattle.stream.proofs.CounterSteps.{ctr-walk-says, gcm-walk-says}
use Rattle.cipher_mode.proofs.Passed.{data-within, message_passed}
use Rattle.demands.proofs.ModesBack.{encrypts, opening}
use Rattle.cipher_mode.proofs.Refusals.{refuses}
use Rattle.editions.proofs.FirstOpening.{search-number}
use Rattle.demands.proofs.Answering.{head_behind, heads}

-- either form of J0 has sixteen bytes
pub length_counter : (h : ℕ) (iv : List ℕ) → length (first_counter h iv) ≡ 16
unfolding first_counter
length_counter h iv =
    by_test (eqb (length iv) 12) (λ e. rw (e, length-append, eqb-true (length iv) 12 e)) (λ e. rw e (length-bytes_of 16 _))

j0_bytes : (rk iv : List ℕ) → AreBytes iv → AreBytes (J0 rk iv)
unfolding first_counter
j0_bytes rk iv a =
    by_test (eqb (length iv) 12) (λ e. rw e (below-append 256 iv (0 ∷ 0 ∷ 0 ∷ 1 ∷ []) a (omega arith))) (λ e. rw e (bytes_of-bytes 16 _))

first_counter_lem : (rk iv : List ℕ) → length iv ≡ 12 → J0 rk iv ≡ followed_by 1 iv
unfolding first_counter
first_counter_lem rk iv n = rw (eq-eqb (length iv) 12 n)

next_counter_lem : (iv : List ℕ) → length iv ≡ 12 → gcm_next (followed_by 1 iv) ≡ followed_by 2 iv
unfolding gcm_next number_of bytes_of
next_counter_lem iv n = rw (take_at iv (0 ∷ 0 ∷ 0 ∷ 1 ∷ []) 12 n, drop_at iv (0 ∷ 0 ∷ 0 ∷ 1 ∷ []) 12 n)

-- What Gcm seals under a 12-byte IV is the text under the counters from 00000002 on, and the tag under 00000001.
pub twelve_counts_from_two : (k : LuossavinKey) → CountsFromTwo k.round_keys (host_mode_call Encrypt 4 k)
unfolding mode_of sealed text_of
twelve_counts_from_two k label d iv o n e =
    let rk = k.round_keys in
    rw (host_leaves Encrypt 4 k label d iv o (host_through Encrypt 4 k label d iv o e))
    (result-of-done (sealed rk (hash_key rk) (J0 rk iv) label d) o ∙ rw (first_counter_lem rk iv n, next_counter_lem iv n))

-- What the answers say of a counter: where done, the formula of W8, which is what the walk's own steps say; no where refused, in the
-- other modes, at starts and at pieces; and with a 12-byte IV never yes.

module _ {b : Bool} where
  -- what is done says, and what is refused by a number
  done-says : {n : ℕ} → Says b (telling b (finished n))
  done-says = record { done = λ _. refl; refused = λ z. absurd (z refl) }

  number-says : (n : ℕ) → 0 < n → Says b (refusal n)
  number-says n h = record { done = λ e. absurd (omega arith); refused = λ _. refl }

  -- by what decides between two, behind a check, and on whichever key
  either-says : (t : Bool) {g h : Head} → Says b g → Says b h → Says b (cond t g h)
  either-says true p q = p
  either-says false p q = q

  behind-says : (k : Checked) {h : Head} → (k ≡ Ok tt → Says b h) → Says b (head_behind k h)
  unfolding head_behind
  behind-says (Ok _) s = s refl
  behind-says (Err r) s = record { done = λ e. absurd ((refuses r).not-zero e); refused = λ _. (refuses r).no_round }

  key-says : {n : ℕ} {h : Head} → Says b h → Says b (under n h)
  key-says s = record { done = s.done; refused = s.refused }

-- what the modes give, either way
result_says : (m : CipherMode) (dir : Direction) (rk aad d iv o : List ℕ) → wrong_iv m (length iv) ≡ false
    → data_check dir m (length d) ≡ Ok tt
    → Says (round_of m dir rk iv (length d)) (mode_result m dir rk aad d iv o).head
result_says m Encrypt rk aad d iv o n e = rw (encrypts m rk aad d iv o) done-says
result_says m Decrypt rk aad d iv o n e =
    ⊎_elim (λ (k, some, x). rw x (number-says k some)) (λ t. rw t.opened done-says) (opening rk aad d iv o m n e)

-- A message says what the formula says where it is done, and no where it is refused, in every mode and under every record;
pub message-says : (dir : Direction) (mode : ℕ) (k : LuossavinKey) (label d iv o : List ℕ)
    → Says (round_of (mode_of mode) dir k.round_keys iv (length d)) (host_mode_call dir mode k label d iv o).head
unfolding host_mode_call mode_call cipher_in
message-says dir mode k label d iv o =
    simp heads
    (either-says (ltb 4 mode) (number-says 7 (omega arith))
    (key-says (behind-says _ (λ e.
    let p = message_passed _ _ _ _ _ e in
    result_says (mode_of mode) dir _ label d iv o p.iv-size p.content))))

-- a single block says no, and so do a range, work by a plan and the question which label a file opens under.
pub block-says : (dir : Direction) (k : LuossavinKey) (b o : List ℕ) → Says false (host_block_call dir k b o).head
unfolding host_block_call block_call
block-says dir k b o = simp heads (key-says (behind-says _ (λ _. done-says)))

pub exported_range-says : (k : LuossavinKey) (decrypt : Bool) (iv : List ℕ) (offset : ℕ) (d o : List ℕ)
    → Says false (host_ctr_range k decrypt iv offset d o).head
unfolding host_ctr_range range_call
exported_range-says k decrypt iv offset d o = simp heads (key-says (behind-says _ (λ _. done-says)))

pub exported_plan-says : (k : LuossavinKey) (decrypt : Bool) (iv : List ℕ) (plan : Plan) (d o : List ℕ)
    → Says false (host_ctr_by_plan k decrypt iv plan d o).head
unfolding host_ctr_by_plan plan_call
exported_plan-says k decrypt iv plan d o =
    let room = either-says (ltb (length o) (length d)) (number-says 6 (omega arith)) done-says in
    simp heads (key-says (behind-says _ (λ _. either-says (not (accepts plan (length d))) (number-says 18 (omega arith)) room)))

pub which-says : (k : LuossavinKey) (file iv labels lengths : List ℕ) → Says false (host_which k file iv labels lengths).head
unfolding host_which which
which-says k file iv labels lengths =
    simp (heads, search-number)
    (either-says (bad_list labels lengths) (number-says 16 (omega arith)) (key-says (behind-says _ (λ _. done-says))))

-- Of a message in pieces the starts and the pieces say no, whatever the state holds;
pub ctr-start-says : (k : LuossavinKey) (decrypt : Bool) (iv : List ℕ) → Says false (host_ctr_start k decrypt iv).head
unfolding host_ctr_start ctr_start
ctr-start-says k decrypt iv = simp heads (key-says (behind-says _ (λ _. done-says)))

pub seal-start-says : (k : LuossavinKey) (label iv : List ℕ) → Says false (host_seal_start k label iv).head
unfolding host_seal_start seal_start
seal-start-says k label iv = simp heads (key-says (behind-says _ (λ _. done-says)))

pub opens-start-says : (k : LuossavinKey) (label iv : List ℕ) → Says false (host_opens_start k label iv).head
unfolding host_opens_start opens_start
opens-start-says k label iv = simp heads (key-says (behind-says _ (λ _. done-says)))

pub ctr-piece-says : (s : CtrState) (e o : List ℕ) → Says false (ctr_piece s e o).head
unfolding ctr_piece
ctr-piece-says s e o = simp heads (key-says (behind-says _ (λ _. done-says)))

pub seal-piece-says : (s : Seal) (e o : List ℕ) → Says false (seal_piece s e o).head
unfolding seal_piece
seal-piece-says s e o = simp heads (key-says (behind-says _ (λ _. done-says)))

pub opens-piece-says : (s : Opens) (e : List ℕ) → Says false (opens_piece s e).head
unfolding opens_piece
opens-piece-says s e = simp heads (key-says (behind-says _ (λ _. done-says)))

-- and the ends what the formula says of the whole: of what came in, counted from the start.
pub ctr-end-says : (s : CtrState) → Says (ctr_came_round s.first (blocks_of s.total)) (ctr_end s).head
unfolding ctr_end
ctr-end-says s = simp heads (key-says (behind-says _ (λ _. done-says)))

pub seal-end-says : (s : Seal) (o : List ℕ) → Says (gcm_came_round s.low (blocks_of s.total)) (seal_end s o).head
unfolding seal_end
seal-end-says s o = simp heads (key-says (behind-says _ (λ _. done-says)))

pub opens-end-says : (s : Opens) (tag : List ℕ) → Says (gcm_came_round s.low (blocks_of s.total)) (opens_end s tag).head
unfolding opens_end
opens-end-says s tag =
    let test = same tag (xors s.mask (hash_end s.hashing (s.total % 16) s.label s.total)) in
    simp heads (key-says (behind-says _ (λ _. either-says test done-says (number-says 4 (omega arith)))))

-- The formula is what the walk's own steps say: in Ctr those between the blocks, and not the one after the last;
pub ctr_steps_say : (dir : Direction) (rk iv d : List ℕ) → length iv ≡ 16 → AreBytes iv
    → ctr_walk_says rk iv d ≡ round_of Ctr dir rk iv (length d)
ctr_steps_say dir rk iv d n a = ctr-walk-says rk iv d n a

-- in Gcm the one from J0 to the first block too, over the text alone.
pub seal_steps_say : (rk iv d : List ℕ) → AreBytes iv → gcm_walk_says rk (J0 rk iv) d ≡ round_of Gcm Encrypt rk iv (length d)
seal_steps_say rk iv d a = gcm-walk-says rk (J0 rk iv) d (length_counter (hash_key rk) iv) (j0_bytes rk iv a)

pub open_steps_say : (rk iv s : List ℕ) → AreBytes iv → gcm_walk_says rk (J0 rk iv) (text_part s) ≡ round_of Gcm Decrypt rk iv (length s)
open_steps_say rk iv s a = rw (length-take-le (length s - 16) s (omega arith)) at (seal_steps_say rk iv (text_part s) a)

-- With a 12-byte IV Gcm says no, whatever it is asked: the counters begin at 1 and the limit ends them long before.
twelve_low : (rk iv : List ℕ) → length iv ≡ 12 → last_four (J0 rk iv) ≡ 1
unfolding number_of
twelve_low rk iv n = rw (first_counter_lem rk iv n) (ap number_of (drop_at iv (0 ∷ 0 ∷ 0 ∷ 1 ∷ []) 12 n))

twelve_no : (dir : Direction) (rk iv : List ℕ) (n : ℕ) → length iv ≡ 12 → n ≤ limit_of dir Gcm → round_of Gcm dir rk iv n ≡ false
unfolding gcm_came_round
twelve_no Encrypt rk iv n e h = rw (twelve_low rk iv e) (lt-leb (2 ^ 32) (1 + (n + 15) / 16) (omega arith))
twelve_no Decrypt rk iv n e h = rw (twelve_low rk iv e) (lt-leb (2 ^ 32) (1 + (n - 16 + 15) / 16) (omega arith))

pub twelve_never : (dir : Direction) (k : LuossavinKey) (label d iv o : List ℕ) → length iv ≡ 12
    → (host_mode_call dir 4 k label d iv o).head.came_round ≡ 0
unfolding mode_of
twelve_never dir k label d iv o n =
    let says = message-says dir 4 k label d iv o in
    by_test (eqb (host_mode_call dir 4 k label d iv o).head.number 0)
    (λ e.
    let z = eqb-true _ 0 e in
    let fits = data-within dir Gcm (length d) (host_through dir 4 k label d iv o z).1.content in
    rw (twelve_no dir k.round_keys iv (length d) n fits) at (says.done z))
    (λ e. says.refused (eqb-false _ 0 e))
