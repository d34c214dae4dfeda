-- Whether a file opens under a job and an edition: the question answers what the opening call does, given room, and a file that opens
-- under one edition is refused as 4 under every other. And which of many labels it opens under.
use Rattle.demands.specs.Names as N
use N.{Bool, cond, false, true, List, [], ◌∷◌, ◌≢◌, ◌⊎◌, ◌∙◌, ◌≡◌, ap, refl, sym, ◌-◌, ◌<◌, ◌^◌, ◌≤◌, suc, zero, ℕ, arith, ltb, drop}
use N.{get_or, length, length-take, take, le-ltb, ltb-false, Head, Outcome, finished, keyed, refusal, under, gcm_open, mode_call, and_then}
use N.{checked, key_check, refuse, wrong_iv, data_check, key_and_iv, message_check, room_check, key_number, limit, sealed_limit, mode_of}
use N.{Gcm, Decrypt, KeyAnswer, NoKey, Key, NoNumber, Sm4Cipher, ShortGcm, TooLong, WrongIv, Checked, Ok, Err, gcm_starting}
use N.{any_too_long, bad_list, label_at, Verdict, checked_verdict, opens_with, search_check, which, label_of, checked_head}
use N.{host_edition_opens, opens_head, host_mode_call, cipher_in, host_key_engine, host_which, LuossavinKey}
use Rattle.block.proofs.Same.{by_test}
use Rattle.cipher_mode.proofs.Refusals.{refuses}
use Rattle.label.proofs.LabelTells.{length_label}
use Rattle.demands.specs.Call.{RefusedAs}
use Rattle.demands.specs.OneBlockRefused.{MovesZero}
use Rattle.demands.specs.EditionOpens.{WithoutText, AnswersAsOpening, NeverNoRoom, OneEditionAlone, Tells, WhichAnswered}
use Rattle.demands.proofs.OneBlockRefused.{other_edition-refused}
use Rattle.editions.proofs.Turns.{or-false}
use Rattle.editions.proofs.Passed.{search_passed}
use Rattle.editions.proofs.FirstOpening.{search-number}
use Rattle.editions.proofs.WhichOpens.{Asked, first-opens, none-opens, found-opens, none_found, zero_unless_found, done_asked}
use Rattle.demands.proofs.Answering.{is_true, is_false, one-or-none}
use Rattle.demands.proofs.InPieces.{single-done, gcm-begins}

-- by the checks a refusal is told alike, and what comes next if that is
by_checks : (k : Checked) (n : ℕ) (o : List ℕ) (h : Head) (x : Outcome) → WithoutText h x
    → WithoutText (under n (checked_head k h)) (keyed n (checked k o x))
by_checks (Ok _) n o h x w = record { number = w.number; missing = w.missing; key = refl; size = w.size; came_round = w.came_round }
by_checks (Err r) n o h x w =
    record { number = refl; missing = refl; key = refl; size = (refuses r).no_size; came_round = (refuses r).no_round }

then_passed : (k : Checked) → and_then k (Ok tt) ≡ k
then_passed (Ok _) = refl
then_passed (Err r) = refl

-- The question answers what the single call answers in Gcm, given room: 0 exactly where that is 0, and otherwise its refusal.
pub edition-opens : (k : LuossavinKey) → AnswersAsOpening (host_edition_opens k) (host_mode_call Decrypt 4 k)
unfolding host_edition_opens opens_head host_mode_call mode_of mode_call message_check room_check gcm_open
edition-opens k job edition file iv o room =
    let c = cipher_in k in
    let label = label_of job edition in
    let n = length_label job edition in
    let second = data_check Decrypt Gcm (length file) in
    rw (le-ltb limit (length label) (omega arith), le-ltb (length o) (length file - 16) room, then_passed second)
    (by_checks (and_then (key_and_iv c.answer c.retired Decrypt Gcm (length iv)) second) (key_number c) o _ _
    (by_test (opens_with c iv file label)
    (λ e. rw e (record { number = refl; missing = refl; key = refl; size = refl; came_round = refl }))
    (λ e. rw e (record { number = refl; missing = refl; key = refl; size = refl; came_round = refl }))))

no_six : (a : KeyAnswer) (wrong long short t : Bool) (n : ℕ)
    → (checked_head
    (and_then (and_then (key_check a) (refuse wrong WrongIv (Ok tt))) (refuse long TooLong (refuse short (ShortGcm n) (Ok tt))))
    (cond t (finished 0) (refusal 4))).number ≡ 6
    → ⊥
no_six NoKey wrong long short t n e = omega arith
no_six NoNumber wrong long short t n e = omega arith
no_six Key true long short t n e = omega arith
no_six Key false true short t n e = omega arith
no_six Key false false true t n e = omega arith
no_six Key false false false true n e = omega arith
no_six Key false false false false n e = omega arith

-- It is never refused for room.
pub edition_never_no_room : (k : LuossavinKey) → NeverNoRoom (host_edition_opens k)
unfolding host_edition_opens opens_head key_and_iv data_check
edition_never_no_room k job edition file iv e =
    let c = cipher_in k in
    no_six c.answer (wrong_iv Gcm (length iv)) (ltb sealed_limit (length file)) (ltb (length file) 16)
    (opens_with c iv file (label_of job edition)) (16 - length file) e

-- Under a key that does not encrypt the all-zero block to itself, a file that opens under one job and edition is answered 4 for every
-- other.
pub edition-alone : (k : LuossavinKey) → MovesZero k.round_keys → OneEditionAlone (host_edition_opens k)
edition-alone k moves j₁ j₂ e₁ e₂ file iv hj₁ hj₂ he₁ he₂ other e =
    let w₁ = edition-opens k j₁ e₁ file iv file (omega arith) in
    let w₂ = edition-opens k j₂ e₂ file iv file (omega arith) in
    let refused = other_edition-refused k moves j₁ j₂ e₁ e₂ file iv file file hj₁ hj₂ he₁ he₂ other refl (sym w₁.number ∙ e) in
    w₂.number ∙ refused.number

-- The engine is not seen.
pub exported_edition_engine_unseen : (k : LuossavinKey) (e job edition : ℕ) (file iv : List ℕ)
    → host_edition_opens (host_key_engine k e) job edition file iv ≡ host_edition_opens k job edition file iv
unfolding host_edition_opens opens_head host_key_engine cipher_in
exported_edition_engine_unseen k e job edition file iv = refl

-- Which of many labels a file opens under: what is told is what the single call answers to each candidate, and among labels of jobs and
-- editions it is the one; and demand 1 of the question.

-- where no label is too long, no candidate is
short-at : (ns : List ℕ) (i : ℕ) → any_too_long ns ≡ false → get_or ns i 0 ≤ limit
unfolding any_too_long
short-at [] i e = omega arith
short-at (n ∷ ns) zero e = ltb-false limit n (or-false (ltb limit n) (any_too_long ns) e).0
short-at (n ∷ ns) (suc i) e = short-at ns i (or-false (ltb limit n) (any_too_long ns) e).1

module _ (k : LuossavinKey) (file iv labels lengths o : List ℕ) (room : length file - 16 ≤ length o) where
  abbrev c : Sm4Cipher
  c = cipher_in k

  abbrev test : ℕ → Bool
  test i = opens_with c iv file (label_at labels lengths i)

  -- 0 where the test holds, and 4 where it does not
  answers : Asked c file iv labels lengths → (i : ℕ)
      → (host_mode_call Decrypt 4 k (label_at labels lengths i) file iv o).head.number ≡ cond (test i) 0 4
  unfolding host_mode_call mode_of gcm_open label_at gcm_starting key_and_iv
  answers a i =
      let label = label_at labels lengths i in
      let p = search_passed c.answer c.retired (length iv) (length file) lengths a.checks in
      let n = short-at lengths i p.short in
      let small : length label ≤ limit = simp length-take (omega arith) in
      ap (λ (x : Outcome). x.head.number)
      (single-done (gcm-begins Decrypt c label iv) (rw (p.key, p.iv-size, le-ltb limit (length label) small)) file o p.content room)
      ∙ by_test (test i) (λ e. rw e) (λ e. rw e)

  -- What the exported question tells is what the exported single call of mode 4, given room, answers to each candidate: found at i exactly
  -- when it is 0 to candidate i and 4 to each before it, none exactly when it is 4 to all.
  pub which_tells : Tells (host_mode_call Decrypt 4 k) file iv labels lengths o (host_which k file iv labels lengths)
  unfolding host_which
  which_tells =
      record {
        found = λ e.
            let f = found-opens c file iv labels lengths (is_true 1 0 refl _ e) in
            record {
              inside = f.first.inside;
              opens = rw (answers f.asked (which c file iv labels lengths).place, f.first.passes);
              before = λ j h. rw (answers f.asked j, f.first.none_before j h);
            };
        tells_found = λ d i f.
            let a = done_asked c file iv labels lengths d in
            let v = first-opens c file iv labels lengths a i
            (record {
              inside = f.inside;
              passes = is_true 0 4 refl (test i) (sym (answers a i) ∙ f.opens);
              none_before = λ j h. is_false 0 4 refl (test j) (sym (answers a j) ∙ f.before j h);
            }) in
            rw v (refl, refl);
        none = λ d e i h.
            let n = none_found c file iv labels lengths (is_false 1 0 refl _ e) d in
            rw (answers n.asked i, n.none i h);
        is_none = λ d f.
            let a = done_asked c file iv labels lengths d in
            rw (none-opens c file iv labels lengths a (λ i h. is_false 0 4 refl (test i) (sym (answers a i) ∙ f i h)));
        part = λ e. (found-opens c file iv labels lengths (is_true 1 0 refl _ e)).there;
      }

-- Under a key that does not encrypt the all-zero block to itself, a label of a job and an edition that is found is the only one that
-- the file opens under.
pub the_edition : (k : LuossavinKey) (file iv labels lengths o : List ℕ) → length file - 16 ≤ length o → MovesZero k.round_keys
    → (host_which k file iv labels lengths).found ≡ 1
    → (job₁ job₂ edition₁ edition₂ : ℕ) → job₁ < 2 ^ 32 → job₂ < 2 ^ 32 → edition₁ < 2 ^ 16 → edition₂ < 2 ^ 16
    → take (host_which k file iv labels lengths).size (drop (host_which k file iv labels lengths).start labels) ≡ label_of job₁ edition₁
    → (job₁ ≢ job₂) ⊎ (edition₁ ≢ edition₂)
    → RefusedAs 4 o (host_mode_call Decrypt 4 k (label_of job₂ edition₂) file iv o)
the_edition k file iv labels lengths o room moves e j₁ j₂ e₁ e₂ hj₁ hj₂ he₁ he₂ part other =
    let t = which_tells k file iv labels lengths o room in
    let label : label_at labels lengths (host_which k file iv labels lengths).place ≡ label_of j₁ e₁ = sym (t.part e) ∙ part in
    other_edition-refused k moves j₁ j₂ e₁ e₂ file iv o o hj₁ hj₂ he₁ he₂ other refl
    (rw label at (t.found e).opens)

-- a search reports nothing but that it is done, and a refusal no candidate
searched : (k : Checked) (v : Verdict) → v.head ≡ finished 0
    → ((checked_verdict k v).head.size ≡ 0) × ((checked_verdict k v).head.number ≢ 0 → (checked_verdict k v).found ≡ false)
searched (Ok _) v e = rw e (refl, λ n. absurd (n refl))
searched (Err r) v e = ((refuses r).no_size, λ _. refl)

-- Demand 1 of the exported question: length 0, the key's number, a part inside the lent buffer where one is found, and none otherwise.
pub which-answers : (k : LuossavinKey) (file iv labels lengths : List ℕ)
    → WhichAnswered (key_number (cipher_in k)) labels lengths (host_which k file iv labels lengths)
unfolding host_which which
which-answers k file iv labels lengths =
    let c = cipher_in k in
    let bad = bad_list labels lengths in
    let (size, place) = searched (search_check c.answer c.retired (length iv) (length file) lengths) _
    (search-number (opens_with c iv file) labels lengths) in
    record {
      key = λ e. rw e;
      bad = λ e. rw e;
      size = by_test bad (λ e. rw e) (λ e. rw e size);
      either = one-or-none (which c file iv labels lengths).found;
      refused = λ n. by_test bad (λ e. rw e) (λ e. rw (e, place (rw e at n)));
      inside = λ e. (found-opens c file iv labels lengths (is_true 1 0 refl _ e)).inside;
      empty = λ e. rw (zero_unless_found c file iv labels lengths (is_false 1 0 refl _ e)) (refl, refl, refl);
    }
