-- Which number an exported call answers: that of the first of the conditions of docs/REQUIREMENTS.md that holds, and no other.
use Rattle.demands.specs.Names as N
use N.{Bool, ◌&&◌, cond, false, not, true, List, [], ◌∷◌, inl, inr, ⊎_elim, ◌≡◌, refl, subst, sym, ℕ, eqb, length, eqb-true, Head, Outcome}
use N.{finished, refusal, refuse_as, telling, cbc_open, cbc_head, unpadded, Ok, InvalidLastU8, InvalidPadding, gcm_open, refusal_head}
use N.{block_call, lengths_of, mode_call, mode_result, and_then, block_check, checked, data_check, key_and_iv, key_check, message_check}
use N.{refuse, room_check, new_cipher, wrong_number, CipherMode, Cbc, Cfb, Ctr, Gcm, Ofb, Direction, Decrypt, Encrypt, Refusal, Checked}
use N.{Ok, Err, ctr_end, ctr_piece, ctr_start, opens_end, opens_piece, opens_start, seal_end, seal_piece, seal_start, gcm_starting}
use N.{running, standing, tagged, writing, CtrState, Opens, Seal, search_check, which, host_block_call, host_mode_call, host_ctr_start}
use N.{host_opens_start, host_seal_start, cipher_in, host_key_new, key_answer_of, key_of, host_which, LuossavinKey}
use Rattle.block.proofs.Same.{by_test}
use Rattle.editions.proofs.FirstOpening.{search-number}
use Rattle.demands.specs.WhichNumber.{Said, said_in, only, Row, Among, is_retired, encrypt_rows_in, decrypt_rows_in, first_of, numbers_of}
use Rattle.demands.specs.WhichNumber.{new_rows, block_rows, which_rows, encrypt_rows, decrypt_rows, ctr_piece_rows, ctr_end_rows}
use Rattle.demands.specs.WhichNumber.{seal_piece_rows, seal_end_rows, opens_piece_rows, opens_end_rows, ctr_start_rows, gcm_start_rows}
use Rattle.demands.proofs.ModesBack.{encrypts}
use Rattle.demands.proofs.Answering.{head_behind, heads}
use mathlib.Core.Bool.{and_comm, and-true}

-- what is said behind a check, s being what comes next
abbrev pub behind : Checked → Said → Said
behind (Ok _) s = s
behind (Err r) s = said_in (refusal_head r)

pub said-refuse : (t : Bool) (r : Refusal) (k : Checked) (s : Said)
    → behind (refuse t r k) s ≡ cond t (said_in (refusal_head r)) (behind k s)
said-refuse true r k s = refl
said-refuse false r k s = refl

pub said_then : (a b : Checked) (s : Said) → behind (and_then a b) s ≡ behind a (behind b s)
said_then (Ok _) b s = refl
said_then (Err r) b s = refl

-- a record's answer that is no key
pub said-key : (n : ℕ) (s : Said)
    → behind (key_check (key_answer_of n)) s ≡ cond (not (eqb n 0) && not (eqb n 13)) (only 1) (cond (eqb n 13) (only 13) s)
unfolding key_answer_of
said-key n s =
    by_test (eqb n 0) (λ e. let z = eqb-true n 0 e in rw z) (λ e. by_test (eqb n 13) (λ f. rw (e, f)) (λ f. rw (e, f)))

-- a report that was behind a check, or behind a test
pub said-head : (k : Checked) (h : Head) → said_in (head_behind k h) ≡ behind k (said_in h)
unfolding head_behind
said-head (Ok _) h = refl
said-head (Err r) h = refl

pub said_cond : (t : Bool) (g h : Head) → said_in (cond t g h) ≡ cond t (said_in g) (said_in h)
said_cond true g h = refl
said_cond false g h = refl

-- so a chain of checks is read as a list of rows
pub ruleset said_laws = (said-refuse, said_then, said-key, heads, said-head, said_cond)

-- a call by its checks, and behind a refusal by number
pub checked-said : (k : Checked) (o : List ℕ) (next : Outcome) (s : Said) → behind k (said_in next.head) ≡ s
    → said_in (checked k o next).head ≡ s
checked-said k o next s e = simp (heads, said-head) e

pub front-said : (t : Bool) (k : ℕ) (o : List ℕ) (x : Outcome) (s : Said) → said_in x.head ≡ s
    → said_in (refuse_as t k o x).head ≡ cond t (only k) s
front-said true k o x s e = refl
front-said false k o x s e = e

-- Setting up a key says what the first condition says that holds: the key's size, its number.
pub exported_new-number : (key : List ℕ) (n : ℕ) → (host_key_new key n).answer ≡ (first_of (new_rows key n)).number
unfolding host_key_new key_of new_cipher
exported_new-number key n =
    by_test (not (eqb (length key) 16)) (λ e. rw e) (λ e. by_test (wrong_number n) (λ f. rw (e, f)) (λ f. rw (e, f)))

-- The exported call on one block says what the first condition says that holds: the key, the block's size, where it encrypts whether
-- the key is retired, the room.
pub exported_block-number : (dir : Direction) (k : LuossavinKey) (b o : List ℕ)
    → said_in (host_block_call dir k b o).head ≡ first_of (block_rows dir k b o)
unfolding host_block_call block_call block_check cipher_in
exported_block-number Encrypt k b o = simp said_laws
exported_block-number Decrypt k b o = simp said_laws

-- opening, by the tests that decide
cbc_said : (n : ℕ) (none bad : Bool)
    → said_in (cbc_head (cond none (Err InvalidLastU8) (cond bad (Err InvalidPadding) (Ok n)))) ≡ cond none (only 3) (cond bad (only 15) (only 0))
cbc_said n true bad = refl
cbc_said n false true = refl
cbc_said n false false = refl

gcm-said : (t : Bool) → cond t (only 0) (only 4) ≡ cond (not t) (only 4) (only 0)
gcm-said true = refl
gcm-said false = refl

-- the lengths of an IV that Gcm takes, the other way round
iv-said : (n : ℕ) → not (eqb n 12) && not (eqb n 16) ≡ not (eqb n 16) && not (eqb n 12)
iv-said n = and_comm (not (eqb n 12)) (not (eqb n 16))

ruleset mode_laws = (said_laws, cbc_said, gcm-said, iv-said, and-true)

module _ (k : LuossavinKey) (label d iv o : List ℕ) where
  abbrev check : Direction → CipherMode → Checked
  check dir m = message_check (key_answer_of k.answer) (is_retired k) dir m (lengths_of label d iv o)

  encryption_said : (m : CipherMode) → behind (check Encrypt m) (only 0) ≡ first_of (encrypt_rows_in m k label d iv o)
  unfolding message_check key_and_iv data_check room_check
  encryption_said Cfb = simp mode_laws
  encryption_said Ofb = simp mode_laws
  encryption_said Ctr = simp mode_laws
  encryption_said Cbc = simp mode_laws
  encryption_said Gcm = simp mode_laws

  decryption_said : (m : CipherMode)
      → behind (check Decrypt m) (said_in (mode_result m Decrypt k.round_keys label d iv o).head)
      ≡ first_of (decrypt_rows_in m k label d iv o)
  unfolding message_check key_and_iv data_check room_check cbc_open unpadded gcm_open
  decryption_said Cfb = simp mode_laws
  decryption_said Ofb = simp mode_laws
  decryption_said Ctr = simp mode_laws
  decryption_said Cbc = simp mode_laws
  decryption_said Gcm = simp mode_laws

-- The exported encryption says what the first condition says that holds: mode, key, IV, whether the key is retired, label, data, room.
pub exported_encryption_number : (mode : ℕ) (k : LuossavinKey) (label d iv o : List ℕ)
    → said_in (host_mode_call Encrypt mode k label d iv o).head ≡ first_of (encrypt_rows mode k label d iv o)
unfolding host_mode_call mode_call cipher_in
exported_encryption_number mode k label d iv o = simp (said_laws, encrypts, encryption_said)

-- The exported decryption says what the first condition says that holds: mode, key, IV, label, data, room, padding, tag.
pub exported_decryption_number : (mode : ℕ) (k : LuossavinKey) (label d iv o : List ℕ)
    → said_in (host_mode_call Decrypt mode k label d iv o).head ≡ first_of (decrypt_rows mode k label d iv o)
unfolding host_mode_call mode_call cipher_in
exported_decryption_number mode k label d iv o = simp (said_laws, decryption_said)

-- The exported question says what the first condition says that holds: the list, the key, the IV, the labels, the file; and 0 where a
-- candidate is found or none opens.
pub exported_which-number : (k : LuossavinKey) (file iv labels lengths : List ℕ)
    → said_in (host_which k file iv labels lengths).head ≡ first_of (which_rows k file iv labels lengths)
unfolding host_which which search_check key_and_iv data_check cipher_in
exported_which-number k file iv labels lengths = simp (said_laws, search-number)

-- So a call answers 0 or a number of its rows, and nothing else.
pub no_other_number : (rows : List Row) (s : Said) → s ≡ first_of rows → Among s.number (numbers_of rows)
no_other_number rows s e = subst (λ (x : Said). Among x.number (numbers_of rows)) (sym e) (one_of rows)
  where
    first_or_later : (t : Bool) (r : Row) (rows : List Row) → Among (first_of rows).number (numbers_of rows)
        → Among (cond t r.says (first_of rows)).number (numbers_of (r ∷ rows))
    first_or_later true r rows later = inr (inl refl)
    first_or_later false r rows later = ⊎_elim inl (λ l. inr (inr l)) later

    one_of : (rows : List Row) → Among (first_of rows).number (numbers_of rows)
    one_of [] = inl refl
    one_of (r ∷ rows) = first_or_later r.holds r rows (one_of rows)

-- the last question of an opening
yes_or_no : (t b : Bool) → said_in (cond t (telling b (finished 0)) (refusal 4)) ≡ cond (not t) (only 4) (only 0)
yes_or_no true b = refl
yes_or_no false b = refl

-- Which number a call on a message in pieces answers: that of the first condition that holds, and no other.
pub said-standing : (mark : ℕ) (s : Said) → behind (standing mark) s
    ≡ cond (eqb mark 1) (only 1)
    (cond (eqb mark 5) (only 5)
    (cond (eqb mark 10) (only 10) (cond (eqb mark 13) (only 13) (cond (eqb mark 14) (only 14) (cond (not (eqb mark 0)) (only 12) s)))))
unfolding standing
said-standing mark s = by_test (eqb mark 0) (λ e. let z = eqb-true mark 0 e in rw z) (λ e. rw e (simp said_laws))

-- Every piece and every end says what the first condition says that holds: what the state stands at, the lengths, the tag's
-- size, the room, and last the tag.
pub ctr-piece-number : (s : CtrState) (e o : List ℕ) → said_in (ctr_piece s e o).head ≡ first_of (ctr_piece_rows s e o)
unfolding ctr_piece writing running
ctr-piece-number s e o = simp (said_laws, said-standing)

pub ctr-end-number : (s : CtrState) → said_in (ctr_end s).head ≡ first_of (ctr_end_rows s)
unfolding ctr_end running
ctr-end-number s = simp (said_laws, said-standing)

pub seal-piece-number : (s : Seal) (e o : List ℕ) → said_in (seal_piece s e o).head ≡ first_of (seal_piece_rows s e o)
unfolding seal_piece writing running
seal-piece-number s e o = simp (said_laws, said-standing)

pub seal-end-number : (s : Seal) (o : List ℕ) → said_in (seal_end s o).head ≡ first_of (seal_end_rows s o)
unfolding seal_end writing running
seal-end-number s o = simp (said_laws, said-standing)

pub opens-piece-number : (s : Opens) (e : List ℕ) → said_in (opens_piece s e).head ≡ first_of (opens_piece_rows s e)
unfolding opens_piece running
opens-piece-number s e = simp (said_laws, said-standing)

pub opens-end-number : (s : Opens) (tag : List ℕ) → said_in (opens_end s tag).head ≡ first_of (opens_end_rows s tag)
unfolding opens_end tagged running
opens-end-number s tag = simp (yes_or_no, said_laws, said-standing)

-- The exported starts say what the first condition says that holds: key, IV, where they encrypt whether the key is retired, label.
pub exported_ctr-start-number : (k : LuossavinKey) (decrypt : Bool) (iv : List ℕ)
    → said_in (host_ctr_start k decrypt iv).head ≡ first_of (ctr_start_rows k decrypt iv)
unfolding host_ctr_start ctr_start key_and_iv cipher_in
exported_ctr-start-number k true iv = simp said_laws
exported_ctr-start-number k false iv = simp said_laws

pub exported_seal-start-number : (k : LuossavinKey) (label iv : List ℕ)
    → said_in (host_seal_start k label iv).head ≡ first_of (gcm_start_rows Encrypt k label iv)
unfolding host_seal_start seal_start gcm_starting key_and_iv cipher_in
exported_seal-start-number k label iv = simp said_laws

pub exported_opens-start-number : (k : LuossavinKey) (label iv : List ℕ)
    → said_in (host_opens_start k label iv).head ≡ first_of (gcm_start_rows Decrypt k label iv)
unfolding host_opens_start opens_start gcm_starting key_and_iv cipher_in
exported_opens-start-number k label iv = simp said_laws
