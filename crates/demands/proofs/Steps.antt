-- Demand 1 of the calls on messages in pieces: every value of a state has its answer, a refusal changes nothing, and a refused start
-- and an ended message are no message's state any more.
use Rattle.demands.specs.Names as N
use N.{Bool, not, true, List, [], ◌++◌, ◌∷◌, ◌≢◌, ◌⊎◌, ⊎_elim, ◌∙◌, ◌≡◌, refl, ◌%◌, ◌-◌, ℕ, arith, eqb, length, eqb-true, ne_eqb, same}
use N.{xors, finished, refusal, refusal_head, key_and_iv, key_number, Ctr as CtrMode, Decrypt, Encrypt, Refusal, Ended, ErrorBlockSize}
use N.{Retired, TooLong, WrongIv, WrongNumber, Checked, Ok, Err, Stepped, begun, ended, goes_on, step_on, ctr_end, ctr_piece}
use N.{ctr_start, opens_end, opens_piece, opens_start, seal_end, seal_piece, seal_start, gcm_starting, running, standing, tagged, writing}
use N.{flow_text, hash_end, ctr_after, ctr_shut, opens_after, opens_shut, seal_after, seal_shut, CtrState as Ctr, CtrCounting, GcmCounting}
use N.{Opens, Seal, direction_of, host_ctr_start, host_opens_start, host_seal_start, cipher_in, LuossavinKey}
use Rattle.block.proofs.Convert.{length-bytes_of}
use Rattle.block.proofs.Xors.{length-xors}
use Rattle.block.proofs.Same.{by_test}
use Rattle.cipher_mode.proofs.Refusals.{refuses as each-refuses}
use Rattle.pieces.proofs.KeyStream.{text-length}
use Rattle.pieces.proofs.Passing.{writing_passed}
use Rattle.demands.specs.Steps.{outcome_of, ctr_key, seal_key, opens_key, piece_numbers, StepAnswered, NoCtr, NoSeal, NoOpens}
use Rattle.demands.specs.Answered.{one_of, Answered}
use Rattle.demands.specs.WhichNumber.{said_in, only, first_of, running_rows, ctr_piece_rows, ctr_end_rows, seal_piece_rows, seal_end_rows}
use Rattle.demands.specs.WhichNumber.{opens_piece_rows, opens_end_rows, ctr_start_rows, gcm_start_rows, Row}
use Rattle.demands.proofs.WhichNumber.{behind, said_laws, said-standing, ctr-piece-number, ctr-end-number, seal-piece-number}
use Rattle.demands.proofs.WhichNumber.{seal-end-number, opens-piece-number, opens-end-number, exported_ctr-start-number}
use Rattle.demands.proofs.WhichNumber.{exported_seal-start-number, exported_opens-start-number}
use Rattle.demands.proofs.Answering.{numbered, within, Fair, answered, refused_fair, refusal_fair, done_fair}
use mathlib.Core.Bool.{false≢true}

-- a refusal, or what comes next, which may count on it that the check passed
goes_answers : {S : Type 0} {number : S → ℕ} {o : List ℕ} {s : S} {n : ℕ} (k : Checked) (next : Stepped S)
    → one_of (goes_on S k o s next).head.number piece_numbers ≡ true → (k ≡ Ok tt → Fair o n next.head next.bytes)
    → (next.head.number ≢ 0 → next.head.number ≢ 4 → next.state ≡ s) → number next.state ≡ number s
    → StepAnswered S number s o n (step_on S (number s) (goes_on S k o s next))
goes_answers {o = o} {n = n} (Ok _) next i a u c =
    record { answered = answered o n piece_numbers _ _ i refl (a refl); carried = c; unmoved = u }
goes_answers {o = o} {n = n} (Err r) next i a u c =
    record { answered = answered o n piece_numbers _ _ i refl (refusal_fair o n r); carried = refl; unmoved = λ _ _. refl }

-- done with no output
nothing_fair : Fair [] 0 (finished 0) []
nothing_fair = done_fair [] 0 [] 0 refl refl (omega arith)

-- A piece of Ctr is refused, with state and output as they came, or done with its own length. The pad of a state has sixteen
-- bytes, as its type says.
pub ctr-piece-answers : (s : Ctr) (e o : List ℕ) → length s.flow.pad ≡ 16 → StepAnswered Ctr ctr_key s o (length e) (ctr_piece s e o)
unfolding ctr_piece
ctr-piece-answers s e o n =
    goes_answers (writing s.stands 0 s.total (length e) (length e) (length o)) _
    (numbered (ctr_piece_rows s e o) piece_numbers _ refl (ctr-piece-number s e o))
    (λ k. done_fair o (length e) (flow_text CtrCounting s.rk s.flow (s.total % 16) e) (length e)
    (text-length CtrCounting s.rk s.flow (s.total % 16) e n (omega arith)) refl (writing_passed _ _ _ _ _ _ k).1)
    (λ z _. absurd (z refl)) refl

pub ctr-end-answers : (s : Ctr) → StepAnswered Ctr ctr_key s [] 0 (ctr_end s)
unfolding ctr_end ctr_shut
ctr-end-answers s =
    goes_answers (running s.stands 0 s.total 0) _ (numbered (ctr_end_rows s) piece_numbers _ refl (ctr-end-number s))
    (λ _. nothing_fair) (λ z _. absurd (z refl)) refl

-- A piece of a sealing, likewise.
pub seal-piece-answers : (s : Seal) (e o : List ℕ) → length s.flow.pad ≡ 16 → StepAnswered Seal seal_key s o (length e) (seal_piece s e o)
unfolding seal_piece
seal-piece-answers s e o n =
    goes_answers (writing s.stands s.label s.total (length e) (length e) (length o)) _
    (numbered (seal_piece_rows s e o) piece_numbers _ refl (seal-piece-number s e o))
    (λ k. done_fair o (length e) (flow_text GcmCounting s.rk s.flow (s.total % 16) e) (length e)
    (text-length GcmCounting s.rk s.flow (s.total % 16) e n (omega arith)) refl (writing_passed _ _ _ _ _ _ k).1)
    (λ z _. absurd (z refl)) refl

-- Its end is refused, or done with the sixteen bytes of a tag.
pub seal-end-answers : (s : Seal) (o : List ℕ) → length s.mask ≡ 16 → StepAnswered Seal seal_key s o 16 (seal_end s o)
unfolding seal_end seal_shut hash_end
seal-end-answers s o n =
    let hash = hash_end s.hashing (s.total % 16) s.label s.total in
    let m : length hash ≡ 16 = length-bytes_of 16 _ in
    goes_answers (writing s.stands s.label s.total 0 16 (length o)) _
    (numbered (seal_end_rows s o) piece_numbers _ refl (seal-end-number s o))
    (λ k. done_fair o 16 (xors s.mask hash) 16 (length-xors s.mask hash (omega arith) ∙ n) refl (writing_passed _ _ _ _ _ _ k).1)
    (λ z _. absurd (z refl)) refl

-- A piece of an opening is refused or taken; its end is refused, or answers 0 or 4, and only 4 leaves another state.
pub opens-piece-answers : (s : Opens) (e : List ℕ) → StepAnswered Opens opens_key s [] 0 (opens_piece s e)
unfolding opens_piece
opens-piece-answers s e =
    goes_answers (running s.stands s.label s.total (length e)) _
    (numbered (opens_piece_rows s e) piece_numbers _ refl (opens-piece-number s e)) (λ _. nothing_fair) (λ z _. absurd (z refl)) refl

pub opens-end-answers : (s : Opens) (tag : List ℕ) → StepAnswered Opens opens_key s [] 0 (opens_end s tag)
unfolding opens_end opens_shut
opens-end-answers s tag =
    let test = same tag (xors s.mask (hash_end s.hashing (s.total % 16) s.label s.total)) in
    goes_answers (tagged s.stands s.label s.total (length tag)) _
    (numbered (opens_end_rows s tag) piece_numbers _ refl (opens-end-number s tag))
    (λ _. by_test test (λ e. rw e nothing_fair) (λ e. rw e (refused_fair [] 0 4 (omega arith))))
    (λ n m. by_test test (λ e. absurd (n (rw e))) (λ e. absurd (m (rw e)))) refl

-- what holds of every number of a list
abbrev All : (ℕ → Type 0) → List ℕ → Type 0
All P [] = Unit {0}
All P (k ∷ ks) = P k × All P ks

each : (P : ℕ → Type 0) (ks : List ℕ) → All P ks → (n : ℕ) → one_of n ks ≡ true → P n
each P [] a n e = absurd (false≢true e)
each P (k ∷ ks) (p, ps) n e = by_test (eqb n k) (λ f. let z = eqb-true n k f in rw z p) (λ f. each P ks ps n (rw f at e))

-- the marks at which a shut state stands, of a refused start and of an end: each refuses by its own number
abbrev shut_marks : List ℕ
shut_marks = 1 ∷ 5 ∷ 10 ∷ 13 ∷ 14 ∷ 12 ∷ []

abbrev Refuses : ℕ → Type 0
Refuses n = (r : Refusal) × (refusal_head r ≡ refusal n) × (standing n ≡ Err r)

refuses : (n : ℕ) → one_of n shut_marks ≡ true → Refuses n
unfolding standing
refuses =
    let last : All Refuses (13 ∷ 14 ∷ 12 ∷ []) = ((WrongNumber, refl, refl), ((Retired, refl, refl), ((Ended, refl, refl), tt))) in
    each Refuses shut_marks ((ErrorBlockSize, refl, refl), ((TooLong, refl, refl), ((WrongIv, refl, refl), last)))

module _ (key n : ℕ) (m : one_of n shut_marks ≡ true) where
  shut-ctr : NoCtr n (ctr_shut key n)
  unfolding ctr_piece ctr_end ctr_shut writing running
  shut-ctr = let (_, head, stands) = refuses n m in record { piece = λ e o. rw (stands, head); end = rw (stands, head) }

  shut-seal : NoSeal n (seal_shut key n)
  unfolding seal_piece seal_end seal_shut writing running
  shut-seal = let (_, head, stands) = refuses n m in record { piece = λ e o. rw (stands, head); end = λ o. rw (stands, head) }

  shut-opens : NoOpens n (opens_shut key n)
  unfolding opens_piece opens_end opens_shut tagged running
  shut-opens = let (_, head, stands) = refuses n m in record { piece = λ e. rw (stands, head); end = λ tag. rw (stands, head) }

-- The starts report length 0, done or refused, and the state carries the key's number. Where one is refused, the state is shut at the
-- number of the refusal.
abbrev Starts : (S : Type 0) → (S → ℕ) → (ℕ → S → Type 0) → ℕ → Stepped S → Type 0
Starts S number No n x =
    (Answered piece_numbers n [] 0 (outcome_of S x) × (number x.state ≡ n)) × (x.head.number ≢ 0 → No x.head.number x.state)

starts : (S : Type 0) (number : S → ℕ) (No : ℕ → S → Type 0) (n : ℕ) (shut : ℕ → S) (s : S) (k : Checked) (rows : List Row)
    → ((mark : ℕ) → number (shut mark) ≡ n) → number s ≡ n → ((mark : ℕ) → one_of mark shut_marks ≡ true → No mark (shut mark))
    → within rows (0 ∷ shut_marks) ≡ true → said_in (begun S k shut s).head ≡ first_of rows
    → Starts S number No n (step_on S n (begun S k shut s))
starts S number No n shut s (Ok _) rows carried first all w i =
    ((answered [] 0 piece_numbers n _ refl refl nothing_fair, first), λ z. absurd (z refl))
starts S number No n shut s (Err r) rows carried first all w i =
    let m = rw (ne_eqb (refusal_head r).number 0 (each-refuses r).not-zero) at (numbered rows (0 ∷ shut_marks) _ w i) in
    let known = each (λ n. one_of n piece_numbers ≡ true) shut_marks (refl, (refl, (refl, (refl, (refl, (refl, tt))))))
    (refusal_head r).number m in
    ((answered [] 0 piece_numbers n _ known refl (refusal_fair [] 0 r), carried _), λ _. all _ m)

module _ (k : LuossavinKey) (decrypt : Bool) (iv : List ℕ) where
  ctr_starts : Starts Ctr ctr_key NoCtr (key_number (cipher_in k)) (host_ctr_start k decrypt iv)
  unfolding host_ctr_start ctr_start ctr_after ctr_shut
  ctr_starts =
      let c = cipher_in k in
      starts Ctr ctr_key NoCtr (key_number c) (ctr_shut (key_number c)) _
      (key_and_iv c.answer c.retired (direction_of decrypt) CtrMode (length iv)) (ctr_start_rows k decrypt iv) (λ _. refl) refl
      (shut-ctr (key_number c)) (by_test decrypt (λ e. rw e) (λ e. rw e)) (exported_ctr-start-number k decrypt iv)

  pub ctr-start-answers : Answered piece_numbers (key_number (cipher_in k)) [] 0 (outcome_of Ctr (host_ctr_start k decrypt iv))
      × ((host_ctr_start k decrypt iv).state.key ≡ key_number (cipher_in k))
  ctr-start-answers = ctr_starts.0

  -- A refused start gives no state: every call on what it gives answers that refusal and changes nothing.
  pub ctr-refused-start : (host_ctr_start k decrypt iv).head.number ≢ 0
      → NoCtr (host_ctr_start k decrypt iv).head.number (host_ctr_start k decrypt iv).state
  ctr-refused-start = ctr_starts.1

module _ (k : LuossavinKey) (label iv : List ℕ) where
  seal_starts : Starts Seal seal_key NoSeal (key_number (cipher_in k)) (host_seal_start k label iv)
  unfolding host_seal_start seal_start seal_after seal_shut
  seal_starts =
      let c = cipher_in k in
      starts Seal seal_key NoSeal (key_number c) (seal_shut (key_number c)) _
      (gcm_starting c.answer c.retired Encrypt (length iv) (length label)) (gcm_start_rows Encrypt k label iv) (λ _. refl) refl
      (shut-seal (key_number c)) refl (exported_seal-start-number k label iv)

  opens_starts : Starts Opens opens_key NoOpens (key_number (cipher_in k)) (host_opens_start k label iv)
  unfolding host_opens_start opens_start opens_after opens_shut
  opens_starts =
      let c = cipher_in k in
      starts Opens opens_key NoOpens (key_number c) (opens_shut (key_number c)) _
      (gcm_starting c.answer c.retired Decrypt (length iv) (length label)) (gcm_start_rows Decrypt k label iv) (λ _. refl) refl
      (shut-opens (key_number c)) refl (exported_opens-start-number k label iv)

  pub seal-start-answers : Answered piece_numbers (key_number (cipher_in k)) [] 0 (outcome_of Seal (host_seal_start k label iv))
      × ((host_seal_start k label iv).state.key ≡ key_number (cipher_in k))
  seal-start-answers = seal_starts.0

  pub opens-start-answers : Answered piece_numbers (key_number (cipher_in k)) [] 0 (outcome_of Opens (host_opens_start k label iv))
      × ((host_opens_start k label iv).state.key ≡ key_number (cipher_in k))
  opens-start-answers = opens_starts.0

  pub seal-refused-start : (host_seal_start k label iv).head.number ≢ 0
      → NoSeal (host_seal_start k label iv).head.number (host_seal_start k label iv).state
  seal-refused-start = seal_starts.1

  pub opens-refused-start : (host_opens_start k label iv).head.number ≢ 0
      → NoOpens (host_opens_start k label iv).head.number (host_opens_start k label iv).state
  opens-refused-start = opens_starts.1

-- what an end leaves that was answered m, which is none of its checks' refusals
after-end : (S : Type 0) (No : S → Type 0) (k : Checked) (o : List ℕ) (s : S) (next : Stepped S) (m : ℕ)
    → ((r : Refusal) → k ≡ Err r → (refusal_head r).number ≢ m) → No next.state
    → (goes_on S k o s next).head.number ≡ m → No (goes_on S k o s next).state
after-end S No (Ok _) o s next m n shut e = shut
after-end S No (Err r) o s next m n shut e = absurd (n r refl e)

-- After an end that answered 0, and after one of an opening that answered 4, every call answers 12 and changes nothing.
pub ctr-after-end : (s : Ctr) → (ctr_end s).head.number ≡ 0 → NoCtr 12 (ctr_end s).state
unfolding ctr_end
ctr-after-end s =
    after-end Ctr (NoCtr 12) (running s.stands 0 s.total 0) [] s _ 0 (λ r _. (each-refuses r).not-zero)
    (shut-ctr s.key ended refl)

pub seal-after-end : (s : Seal) (o : List ℕ) → (seal_end s o).head.number ≡ 0 → NoSeal 12 (seal_end s o).state
unfolding seal_end
seal-after-end s o =
    after-end Seal (NoSeal 12) (writing s.stands s.label s.total 0 16 (length o)) o s _ 0 (λ r _. (each-refuses r).not-zero)
    (shut-seal s.key ended refl)

-- no check of an end refuses by 4
not-four : (mark label total tag : ℕ) (r : Refusal) → tagged mark label total tag ≡ Err r → (refusal_head r).number ≢ 4
unfolding tagged running
not-four mark label total tag r e four =
    let nine : Row = record { holds = not (eqb tag 16); says = record { number = 9; missing = 16 - tag } } in
    let rows = running_rows mark label total 0 ++ (nine ∷ []) in
    let said : behind (tagged mark label total tag) (only 0) ≡ first_of rows = simp (said_laws, said-standing) in
    false≢true (rw four at (numbered rows (0 ∷ 9 ∷ shut_marks) (said_in (refusal_head r)) refl (rw e at said)))

pub opens-after-end : (s : Opens) (tag : List ℕ) → ((opens_end s tag).head.number ≡ 0) ⊎ ((opens_end s tag).head.number ≡ 4)
    → NoOpens 12 (opens_end s tag).state
unfolding opens_end
opens-after-end s tag =
    let after = after-end Opens (NoOpens 12) (tagged s.stands s.label s.total (length tag)) [] s _ in
    let shut = shut-opens s.key ended refl in
    ⊎_elim (after 0 (λ r _. (each-refuses r).not-zero) shut) (after 4 (not-four s.stands s.label s.total (length tag)) shut)
