-- Imposters put in the place of a call: each breaks a demand or the definition, at an input that is named.
use Rattle.demands.specs.Names as N
use N.{false, List, [], ◌++◌, ◌∷◌, ◌≢◌, inl, ◌∙◌, ◌≡◌, ap, refl, sym, ◌+◌, ◌-◌, ◌^◌, ◌≤◌, ℕ, le_of_eq, arith, eqb, lit<, drop, get_or}
use N.{length, length-replicate, replicate, take, eqb-false, le-ltb, AreBytes, bytes_of, number_of, U128, gmul, gpow, mul_from, one}
use N.{times_x, ctr_next, Head, Outcome, done, keyed, reporting, chain, walk, round_keys, GhashBlock as block_of, blocks, blocks_from}
use N.{hash_from, joined, mode_call, wrong_iv, data_check, key_and_iv, message_check, room_check, key_number, new_cipher, limit, room_of}
use N.{mode_of, CipherMode, Cbc, Cfb, Ctr, Gcm, Ofb, Decrypt, Encrypt, Seal, any_too_long, bad_list, label_at, sum, search_check, which}
use N.{plan_call, no_pieces, accepts, follows, range_call, range_check, reach_check, stretch, laid_at, Plan, label_of, ShelfOutcome}
use N.{put_call, front_shelf as front, marked_shelf as marked, read_up_to, records, size_at_shelf as size_at}
use N.{starts_record_shelf as starts_record, stored_shelf as stored, written_shelf as written, bad_shelf, fitted, has_current, not_higher}
use N.{supersede, those, two_current, with_new, host_hash_blocks, host_hash_join, mode_in, host_mode_call, cipher_in, host_key_engine}
use N.{host_key_new, key_answer_of, key_of, host_ctr_by_plan, host_ctr_range, Told, host_which, LuossavinKey}
use Rattle.block.proofs.Entries.{below-replicate}
use Rattle.counter.proofs.Edges.{ctr-one-block, ctr_two_blocks}
use Rattle.editions.proofs.FirstOpening.{search-number}
use Rattle.demands.specs.Call.{Call, result, in_gcm}
use Rattle.demands.specs.CameRound.{round_of, Says}
use Rattle.demands.specs.Answered.{single_numbers, Answered, KeyAnswered, length_of}
use Rattle.demands.specs.ThereAndBack.{Asks, Served, SameKey, Decryptable, ThereAndBack}
use Rattle.demands.specs.InPieces.{CheckedAlike}
use Rattle.demands.specs.OneBlockRefused.{OneBlockRefused}
use Rattle.demands.specs.Imposters.{zeros, zero_key, ones, ctr, refuses_all, constant, copies, first_block_only, invents_length}
use Rattle.demands.specs.Imposters.{counts_every_step, says_it_refused, tells_engine, binds_number, forgets_number, takes_any_number}
use Rattle.demands.specs.Imposters.{copies_anew, throws_away, marks_anew, label_unseen, counts_from_one, leaves_part, file_first}
use Rattle.demands.specs.Imposters.{from_the_block, stream_alone, mark_unseen, plan_first, against_current, marks_first, counts_bytes}
use Rattle.demands.specs.Imposters.{two_editions}
use Rattle.demands.specs.Halves.{IsValue, WholeBlocks, hash_of_halves}
use Rattle.demands.specs.Retired.{StaysRetired, DecryptsAlike}
use Rattle.demands.specs.EngineUnseen.{unmarked_host}
use Rattle.demands.specs.EditionOpens.{Tells, WhichAnswered}
use Rattle.demands.specs.Workers.{ctr_call, StretchOfWhole, Applying, applied_by, RangesCommute}
use Rattle.demands.proofs.Through.{through, leaves}
use Rattle.demands.proofs.ModesBack.{encrypted}
use Rattle.demands.proofs.ThereAndBack.{set-up-same-key, served}
use Rattle.demands.proofs.OneBlockRefused.{short-label-refused}
use Rattle.demands.proofs.Worked.{zero-block, block-of-one, zero-key_moves}
use mathlib.Core.Bool.{false≢true}

-- two numbers of two things tell the things apart
pub apart : (A : Type 0) (f : A → ℕ) (x y : A) (m n : ℕ) → f x ≡ m → f y ≡ n → eqb m n ≡ false → x ≢ y
apart A f x y m n a b t e = eqb-false m n t (sym a ∙ ap f e ∙ b)

-- there is a list past the limit, which is not to be written out
long : ((n : ℕ) → n ≡ limit + 1 → (l : List ℕ) → length l ≡ n → ⊥) → ⊥
long f = let past : (n : ℕ) → n ≡ limit + 1 → ⊥ = λ n e. f n e (replicate n 0) (length-replicate n 0) in past (limit + 1) refl

-- a byte of the output
abbrev at : ℕ → Outcome → ℕ
at i x = get_or x.bytes i 0

-- The call that refuses everything meets demand 3: nothing opens, so there is nothing to refuse.
pub refusing_all_meets_demand_3 : OneBlockRefused refuses_all
refusing_all_meets_demand_3 a₁ a₂ c₁ c₂ t iv o₁ o₂ ba₁ ba₂ bc₁ bc₂ n eo change opens = absurd (omega arith)

-- an output of sixteen bytes has room for what no data gives
room_for_nothing : (m : CipherMode) → room_of m Encrypt 0 ≤ 16
room_for_nothing Cfb = omega arith
room_for_nothing Ofb = omega arith
room_for_nothing Ctr = omega arith
room_for_nothing Cbc = omega arith
room_for_nothing Gcm = omega arith

zeros-bytes : AreBytes zeros
zeros-bytes = below-replicate 256 16 0 (lit< tt)

-- the empty message is asked for in order in every mode
nothing_asked : (m : CipherMode) → Asks m [] [] zeros zeros
nothing_asked m = record { iv-size = inl refl; label-fits = λ _. omega arith; data-fits = omega arith; room = room_for_nothing m }

-- But it does not serve: nobody's empty message, without a label and under an IV of zeros, is encrypted, in any mode and whatever
-- stands beside it for decryption.
pub refusing_all_serves_nobody : (m : CipherMode) (decryption : Call) → ¬ Served m refuses_all decryption
refusing_all_serves_nobody m decryption s = absurd (omega (arith, (s.sealing [] [] zeros zeros (nothing_asked m)).number))

-- And as decryption it breaks demand 2, with any usable and unretired key, in any mode and whatever room it is given: it does not give back
-- the empty message, encrypted without a label under an IV of zeros.
pub refusing_all_breaks_demand_2 : (mode : ℕ) (k : LuossavinKey) → mode ≤ 4 → k.answer ≡ 0 → k.retired ≡ 0 → (room : ℕ → ℕ)
    → ¬ ThereAndBack (λ (n : ℕ) (o : List ℕ). room n ≤ length o) (host_mode_call Encrypt mode k) refuses_all
refusing_all_breaks_demand_2 mode k h a u room back =
    let s = served mode k h a u k (record { keys = refl; answer = refl }) in
    let e = (s.sealing [] [] zeros zeros (nothing_asked (mode_of mode))).number in
    let n = room (host_mode_call Encrypt mode k [] [] zeros zeros).head.size in
    let r = back [] [] zeros zeros (replicate n 0) tt zeros-bytes e (le_of_eq (sym (length-replicate n 0))) in
    absurd (omega (arith, r.number))

-- The others are held against encryption in Ctr under the key and the IV of sixteen zero bytes.

-- what Ctr leaves of d under the zero key, given room, where p is the result
given : (iv d o p : List ℕ) → wrong_iv Ctr (length iv) ≡ false → length d ≤ limit → length d ≤ length o
    → encrypted Ctr (round_keys zeros) [] d iv ≡ p
    → ctr zero_key [] d iv o ≡ keyed 1 (reporting (round_of Ctr Encrypt (round_keys zeros) iv (length d)) (done p o))
unfolding host_mode_call mode_of host_key_new key_of cipher_in key_answer_of new_cipher data_check
given iv d o p i l r e =
    rw (← e) (leaves Encrypt (mode_in zero_key 2) [] d iv o
    (record { key = refl; iv-size = i; may = refl; label = refl; content = rw (le-ltb limit (length d) l); room = r }))

-- A constant answer, whatever it is, is wrong at one of two inputs that are both in order: a byte 0 becomes 9f and a byte 1
-- becomes 9e.
pub constant_contradicts : (x : Outcome) → constant x [] (0 ∷ []) zeros (0 ∷ []) ≡ ctr zero_key [] (0 ∷ []) zeros (0 ∷ [])
    → constant x [] (1 ∷ []) zeros (0 ∷ []) ≢ ctr zero_key [] (1 ∷ []) zeros (0 ∷ [])
unfolding chain walk
constant_contradicts x e f =
    let g = given zeros (0 ∷ []) (0 ∷ []) (0x9f ∷ []) refl (omega arith) (omega arith) (rw zero-block) in
    let h = given zeros (1 ∷ []) (0 ∷ []) (0x9e ∷ []) refl (omega arith) (omega arith) (rw zero-block) in
    apart Outcome (at 0) _ _ 0x9f 0x9e (ap (at 0) g) (ap (at 0) h) refl (sym e ∙ f)

-- A copy is wrong at one zero byte, which becomes 9f. (Of no data there is no other result.)
pub copy_contradicts : copies [] (0 ∷ []) zeros (0 ∷ []) ≢ ctr zero_key [] (0 ∷ []) zeros (0 ∷ [])
unfolding chain walk
copy_contradicts =
    let g = given zeros (0 ∷ []) (0 ∷ []) (0x9f ∷ []) refl (omega arith) (omega arith) (rw zero-block) in
    apart Outcome (at 0) (copies [] (0 ∷ []) zeros (0 ∷ [])) _ 0 0x9f refl (ap (at 0) g) refl

-- Ciphering the first block and copying the rest is wrong at seventeen zero bytes: byte 16 becomes 23. (Up to sixteen bytes
-- there is no rest.)
pub first-block-only-contradicts :
    first_block_only zero_key [] (replicate 17 0) zeros (replicate 17 0) ≢ ctr zero_key [] (replicate 17 0) zeros (replicate 17 0)
unfolding chain walk ctr_next number_of bytes_of
first-block-only-contradicts =
    let d : List ℕ = replicate 17 0 in
    let p : List ℕ =
    0x9f ∷ 0x1f ∷ 0x7b ∷ 0xff ∷ 0x6f ∷ 0x55 ∷ 0x11 ∷ 0x38 ∷ 0x4d ∷ 0x94 ∷ 0x30 ∷ 0x53 ∷ 0x1e ∷ 0x53 ∷ 0x8f ∷ 0xd3 ∷ 0x23 ∷ [] in
    let g = given zeros d d p refl (omega arith) (omega arith) (rw (zero-block, block-of-one)) in
    apart Outcome (at 16) _ _ 0 0x23 (ap (λ (x : Outcome). at 16 (done (take 16 (result x) ++ drop 16 d) d)) g) (ap (at 16) g) refl

-- A length of its own invention, the output's, breaks the table of lengths at no data with an output of one byte: the table
-- says 0.
pub invented-length-breaks-the-table :
    ¬ ((label d iv o : List ℕ)
    → Answered single_numbers 1 o (length_of Ctr Encrypt zero_key.round_keys iv d) (invents_length zero_key label d iv o))
invented-length-breaks-the-table claim =
    let done-there = ap (λ (x : Outcome). x.head.number) (given zeros [] (0 ∷ []) _ refl (omega arith) (omega arith) refl) in
    absurd (omega (arith, (claim [] [] zeros (0 ∷ [])).reported done-there))

-- Counting the step after the last block is told by one byte under the IV of sixteen bytes ff: its one block has no step after it.
pub every-step-is-told :
    ¬ ((label d iv o : List ℕ)
    → Says (round_of Ctr Encrypt zero_key.round_keys iv (length d)) (counts_every_step zero_key label d iv o).head)
every-step-is-told claim =
    let o : List ℕ = 0 ∷ [] in
    let number = ap (λ (x : Outcome). x.head.number) (given ones o o _ refl (omega arith) (omega arith) refl) in
    eqb-false 1 0 refl (rw (ctr_two_blocks, ctr-one-block) at ((claim [] o ones o).done number))

-- A yes beside a refusal is told by seventeen bytes under that IV and an output of none: 6 says nothing of a counter.
pub yes-refused-is-told :
    ¬ ((label d iv o : List ℕ)
    → Says (round_of Ctr Encrypt zero_key.round_keys iv (length d)) (says_it_refused zero_key label d iv o).head)
unfolding host_mode_call mode_of mode_call message_check key_and_iv data_check room_check host_key_new key_of cipher_in key_answer_of
    new_cipher
yes-refused-is-told claim = eqb-false 1 0 refl (rw ctr_two_blocks at ((claim [] (replicate 17 0) ones []).refused (λ e. omega arith)))

-- Setting up a key without its number breaks what set-up answers, at sixteen zero bytes and the number 2: it is 1.
pub forgotten_number_is_told : ¬ ((key : List ℕ) (n : ℕ) → KeyAnswered key n (forgets_number key n))
unfolding new_cipher
forgotten_number_is_told claim = eqb-false 1 2 refl ((claim zeros 2).done refl (omega arith) (omega arith)).1

-- Taking any number breaks it at sixteen zero bytes and the number 0, which is 13.
pub any_number_is_told : ¬ ((key : List ℕ) (n : ℕ) → KeyAnswered key n (takes_any_number key n))
any_number_is_told claim = eqb-false 0 13 refl (ap (λ (h : Head). h.number) ((claim zeros 0).out_of_range refl (inl refl)))

-- any record that is retired
abbrev retired_key : LuossavinKey
retired_key = record { round_keys = []; answer = 0; number = 1; retired = 1; engine = 0 }

-- Retiring by a copy breaks that a retired record stays retired, at any that is.
pub copy_anew_is_unretired : ¬ StaysRetired copies_anew
copy_anew_is_unretired claim = claim retired_key (λ z. omega arith) refl

-- Marking by a copy breaks it too.
pub mark_anew_is_unretired : (e : ℕ) → ¬ StaysRetired (marks_anew e)
mark_anew_is_unretired e claim = claim retired_key (λ z. omega arith) refl

-- Retiring a key by making it none breaks that old files open, at the key of sixteen zero bytes in Ctr and an IV of none: the key
-- answers 10, and the imposter 1.
pub thrown_away_opens-nothing : ¬ ((k : LuossavinKey) → DecryptsAlike k (throws_away k))
unfolding host_mode_call mode_of mode_call message_check key_and_iv host_key_new key_of cipher_in key_answer_of new_cipher
thrown_away_opens-nothing claim = eqb-false 1 10 refl (ap (λ (x : Outcome). x.head.number) ((claim zero_key).message 2 [] [] [] []))

-- Ranges that do not look at the mark are done under a retired key, at no data: there every other call that encrypts is refused.
pub unseen-mark-encrypts :
    ¬ ((k : LuossavinKey) → k.retired ≢ 0 → (iv : List ℕ) (offset : ℕ) (d o : List ℕ) → (mark_unseen k false iv offset d o).head.number ≢ 0)
unfolding host_ctr_range range_call range_check reach_check key_and_iv cipher_in key_answer_of
unseen-mark-encrypts claim = claim retired_key (λ z. omega arith) zeros 0 [] [] refl

-- Telling the engine breaks that it is not seen, at the key of sixteen zero bytes and nothing to encrypt.
pub told-engine-is-seen :
    ¬ ((k l : LuossavinKey) → unmarked_host k ≡ unmarked_host l → tells_engine k [] [] [] [] ≡ tells_engine l [] [] [] [])
unfolding host_key_engine host_key_new key_of new_cipher
told-engine-is-seen claim = eqb-false 0 1 refl (ap (λ (x : Outcome). x.head.came_round) (claim zero_key (host_key_engine zero_key 1) refl))

-- Putting the number in front of the label takes back what it did under one record, retired or not, and breaks that under the same key with
-- another number, at the empty message under the key of sixteen zero bytes, sealed under the number 1 and opened under 2.
pub number-in-label-contradicts :
    ¬ ((k later : LuossavinKey) → SameKey k later → ThereAndBack (Decryptable Gcm) (binds_number Encrypt k) (binds_number Decrypt later))
unfolding host_mode_call mode_of host_key_new key_of cipher_in key_answer_of new_cipher
number-in-label-contradicts claim =
    let later = host_key_new zeros 2 in
    let same = set-up-same-key zeros 1 2 refl (omega arith) (omega arith) (omega arith) (omega arith) in
    let s = served 4 zero_key (omega arith) refl refl later same in
    let asked : Asks Gcm (1 ∷ []) [] zeros zeros =
    record { iv-size = inl refl; label-fits = λ _. omega arith; data-fits = omega arith; room = omega arith } in
    let sealed = s.sealing (1 ∷ []) [] zeros zeros asked in
    let opened = (s.opening (1 ∷ []) [] zeros zeros zeros asked tt zeros-bytes (omega arith)).number in
    let back = (claim zero_key later same [] [] zeros zeros zeros tt zeros-bytes sealed.number (rw sealed.size (omega arith))).number in
    let refused = short-label-refused (cipher_in later) zero-key_moves (1 ∷ []) (2 ∷ []) _ zeros zeros zeros (lit< tt, tt) (lit< tt, tt)
    (λ e. eqb-false 1 2 refl (ap (λ (l : List ℕ). get_or l 0 0) e)) refl (omega arith) refl opened in
    eqb-false 4 0 refl (sym refused.number ∙ back)

-- Not looking at the label's length is told by a label past the limit, with any usable and unretired key: the start answers 0, and the
-- single call of no data 5.
pub unseen_label_contradicts : (k : LuossavinKey) → k.answer ≡ 0 → k.retired ≡ 0
    → ¬ ((label iv : List ℕ) → CheckedAlike Seal [] 16 (0 ∷ []) (label_unseen k label iv) (λ d o. host_mode_call Encrypt 4 k label d iv o))
unfolding host_mode_call mode_of mode_call message_check key_and_iv cipher_in key_answer_of
unseen_label_contradicts k a u claim =
    long (λ n past label e.
    let five : (host_mode_call Encrypt 4 k label [] zeros zeros).head.number ≡ 5 = rw (e, past, a, u) in
    false≢true (rw five at ((claim label zeros).begun (rw (a, u)) zeros (omega arith))))

-- A part that is told where none is found is told by a bad list, one byte of labels and no candidate.
pub left_part_is_told : (k : LuossavinKey)
    → ¬ ((file iv labels lengths : List ℕ) → WhichAnswered (key_number (cipher_in k)) labels lengths (leaves_part k file iv labels lengths))
unfolding host_which which bad_list sum
left_part_is_told k claim = eqb-false 1 0 refl ((claim [] [] (0 ∷ []) []).empty refl).2

-- Counting places from 1 is told by the empty message, sealed under the empty label with any usable and unretired key: it opens under the
-- only candidate, which is at place 0.
pub counting_from_one_is_told : (k : LuossavinKey) → k.answer ≡ 0 → k.retired ≡ 0
    → ¬ ((file iv labels lengths o : List ℕ) → length file - 16 ≤ length o
    → Tells (host_mode_call Decrypt 4 k) file iv labels lengths o (counts_from_one k file iv labels lengths))
unfolding host_mode_call mode_of host_which which label_at bad_list sum search_check key_and_iv any_too_long
counting_from_one_is_told k a u claim =
    let c = cipher_in k in
    let file = result (host_mode_call Encrypt 4 k [] [] zeros zeros) in
    let s = served 4 k (omega arith) a u k (record { keys = refl; answer = refl }) in
    let back = (s.opening [] [] zeros zeros zeros (nothing_asked Gcm) tt zeros-bytes (omega arith)).number in
    let p = through Decrypt (in_gcm c) [] file zeros zeros back in
    let asked : (host_which k file zeros [] (0 ∷ [])).head.number ≡ 0 =
    rw (p.content, p.key) (ap (λ (h : Head). h.number) (search-number _ [] (0 ∷ []))) in
    let told = ((claim file zeros [] (0 ∷ []) zeros p.room).tells_found asked 0
    (record { inside = omega arith; opens = back; before = λ j h. absurd (omega arith) })).1 in
    absurd (omega arith)

-- Looking at the file's length before the labels' is told by a file of no bytes and one label past the limit, which is 5, with any usable
-- key: the imposter answers 9.
pub file_first_contradicts : (k : LuossavinKey) → k.answer ≡ 0
    → ¬ ((file iv labels lengths : List ℕ) → file_first k file iv labels lengths ≡ host_which k file iv labels lengths)
unfolding host_which which bad_list sum search_check key_and_iv any_too_long data_check cipher_in key_answer_of
file_first_contradicts k a claim =
    long (λ n past labels e.
    apart Told (λ v. v.head.number) _ _ 9 5 (rw a) (rw (e, past, a)) refl (claim [] zeros labels (n ∷ [])))

-- what a range of one zero byte at the text's start gives
first_byte : (iv : List ℕ) (b : ℕ) → wrong_iv Ctr (length iv) ≡ false → encrypted Ctr (round_keys zeros) [] (0 ∷ []) iv ≡ b ∷ []
    → result (host_ctr_range zero_key false iv 0 (0 ∷ []) (0 ∷ [])) ≡ b ∷ []
unfolding host_ctr_range range_call range_check reach_check key_and_iv stretch host_key_new key_of cipher_in key_answer_of new_cipher
first_byte iv b i e = rw (i, e)

-- A range from the block's start is no stretch of the whole, at the second of two zero bytes under the key of sixteen zero bytes: it
-- becomes 1f, and 9f at the block's start.
pub from_the_block_contradicts : ¬ StretchOfWhole from_the_block ctr_call
unfolding chain walk
from_the_block_contradicts claim =
    let o : List ℕ = 0 ∷ 0 ∷ [] in
    let single = given zeros o o (0x9f ∷ 0x1f ∷ []) refl (omega arith) (omega arith) (rw zero-block) in
    let done-there = ap (λ (x : Outcome). x.head.number) single in
    let e = (claim.stretch zero_key false [] zeros (0 ∷ []) (0 ∷ []) [] (0 ∷ []) o (omega arith) done-there).1 in
    apart (List ℕ) (λ l. get_or l 0 0) _ _ 0x9f 0x1f (ap (λ (l : List ℕ). get_or l 0 0) (first_byte zeros 0x9f refl (rw zero-block)))
    (ap (λ (x : Outcome). get_or (take 1 (drop 1 (result x))) 0 0) single) refl e

-- The key stream alone does not commute, at one zero byte under the IVs of zeros and of the number 1: the last of the two stands there, 9f
-- or 23.
abbrev first_of : List ℕ → Applying
first_of iv = record { key = zero_key; decrypt = false; iv = iv; share = record { start = 0; size = 1 }; out = 0 ∷ [] }

pub stream-alone_contradicts : ¬ RangesCommute stream_alone
unfolding chain walk
stream-alone_contradicts claim =
    let one : List ℕ = replicate 15 0 ++ (1 ∷ []) in
    let first : List ℕ → ℕ = λ l. get_or l 0 0 in
    apart (List ℕ) first _ _ 0x9f 0x23
    (ap first (stands zeros 0x9f (stands one 0x23 refl refl (rw block-of-one)) refl (rw zero-block)))
    (ap first (stands one 0x23 (stands zeros 0x9f refl refl (rw zero-block)) refl (rw block-of-one))) refl
    (claim (first_of zeros) (first_of one) (0 ∷ []))
  where
    stands : (iv : List ℕ) (b : ℕ) {x : ℕ} {t : List ℕ} → t ≡ x ∷ [] → wrong_iv Ctr (length iv) ≡ false
        → encrypted Ctr (round_keys zeros) [] (0 ∷ []) iv ≡ b ∷ [] → applied_by stream_alone (first_of iv) t ≡ b ∷ []
    stands iv b {x} f i e = rw f (ap (λ (l : List ℕ). laid_at 0 l (x ∷ [])) (first_byte iv b i e))

-- Looking at the plan before the length is told by one byte past the limit and a plan of no pieces, which is 5, with any usable and
-- unretired key: the imposter answers 18.
pub plan-first_contradicts : (k : LuossavinKey) → k.answer ≡ 0 → k.retired ≡ 0
    → ¬ ((iv : List ℕ) (plan : Plan) (d o : List ℕ) → plan_first k false iv plan d o ≡ host_ctr_by_plan k false iv plan d o)
unfolding host_ctr_by_plan plan_call reach_check key_and_iv accepts follows cipher_in key_answer_of
plan-first_contradicts k a u claim =
    long (λ n past d e.
    apart Outcome (λ x. x.head.number) _ _ 18 5 (rw (e, past, a, u)) (rw (e, past, a, u)) refl (claim zeros no_pieces d []))

-- Holding an edition against the current record alone is told by edition 1 of a job whose edition 1 is superseded and whose edition 0 is
-- current: that is 20, and the imposter puts it in.
pub against_current_contradicts : against_current two_editions 24 0 1 [] ≢ put_call two_editions 24 0 1 []
unfolding put_call bad_shelf stored written label_of bytes_of has_current two_current not_higher those records read_up_to starts_record
    marked size_at front number_of
against_current_contradicts = apart ShelfOutcome (λ x. x.number) _ _ 0 20 refl refl refl

-- Marking before collecting is told by edition 2 of that job in a buffer that is full: the mark stands behind the used bytes, at byte 13,
-- which is to be as it was.
pub marks_first_contradicts : marks_first two_editions 24 0 2 [] ≢ put_call two_editions 24 0 2 []
unfolding put_call bad_shelf stored written label_of bytes_of has_current two_current not_higher those supersede with_new fitted records
    read_up_to starts_record marked size_at front number_of
marks_first_contradicts = apart ShelfOutcome (λ x. get_or x.bytes 13 0) _ _ 0x58 0x44 refl refl refl

-- Counting bytes is told under H = x by a first half of the one, which hashes to x, and two zero bytes behind it: that is x^2, and the
-- imposter gives x^3.
pub counting-bytes-contradicts :
    ¬ ((h : U128) → IsValue h → (a b : List ℕ) → WholeBlocks a → counts_bytes h a b ≡ host_hash_blocks h (a ++ b))
unfolding host_hash_blocks host_hash_join joined hash_from blocks blocks_from block_of number_of gmul mul_from times_x gpow one
counting-bytes-contradicts claim =
    apart U128 (λ r. r.high) _ _ (2 ^ 60) (2 ^ 61) refl refl refl
    (claim (record { high = 2 ^ 62; low = 0 }) (record { high = lit< tt; low = lit< tt }) (0x80 ∷ replicate 15 0) (0 ∷ 0 ∷ []) refl)

-- A first half that ends inside a block does not join: under H = x two halves of one byte 80 are two blocks, x^2 + x, and both together are
-- one block, x + x^9.
pub cut-inside-a-block-contradicts :
    ¬ ((h : U128) → IsValue h → (a b : List ℕ) → hash_of_halves host_hash_blocks host_hash_join h a b ≡ host_hash_blocks h (a ++ b))
unfolding host_hash_blocks host_hash_join joined hash_from blocks blocks_from block_of number_of gmul mul_from times_x gpow one
cut-inside-a-block-contradicts claim =
    apart U128 (λ r. r.high) _ _ (2 ^ 62 + 2 ^ 61) (2 ^ 62 + 2 ^ 54) refl refl refl
    (claim (record { high = 2 ^ 62; low = 0 }) (record { high = lit< tt; low = lit< tt }) (0x80 ∷ []) (0x80 ∷ []))
