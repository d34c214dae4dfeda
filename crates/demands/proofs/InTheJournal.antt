-- The replay of a journal, as a host is told of it: demand 1, which number it ends with; two journals joined; and that calls which were
-- recorded as they were answered agree.
use Rattle.demands.specs.Names as N
use N.{false, true, List, [], ◌++◌, ◌∷◌, append-nil, inl, inr, ⊎_elim, ◌∙◌, ◌≡◌, ap, refl, sym, ◌<◌, ℕ, get_or, take-append_seam, ◌-◌}
use N.{arith, ltb, length, take, lt-ltb, AreBytes, Sm4Cipher, AllReplayable, Ends, NoneDiffers, Totals, counted_all, differs, Entry}
use N.{stored_journal as stored, written_journal as written, added, behind_report, bad_keys, key_of_journal as key_of, keys_in, answered_by}
use N.{call_into, recomputed, result_of as result, done_journal as done, ended_journal as ended, number_of_end, place_told, report_of}
use N.{refused_journal as refused, replay, nothing, write, Option, None, Some, Ok, Err, Stop, BadKeys, BadRecord, TooLongJournal as TooLong}
use N.{UnknownKey, Difference, Replayed, Keys, NoRoomWrote as NoRoom, host_mode_call, host_replay, keys_of, differs_told, difference_told}
use N.{told_of_journal as told_of, LuossavinKeys, OfRecords, Report, ◌⊎◌, ◌+◌, eqb, cond}
use Rattle.block.proofs.Same.{by_test}
use Rattle.journal.proofs.Sums.{replay_adds_up, first_replayed}
use Rattle.journal.proofs.Lent.{any_output-head, any_output-result}
use Rattle.journal.proofs.Joined.{joined}
use Rattle.journal.proofs.Ending.{bad-keys, ends_so, ends-alone, replayed_whole}
use Rattle.journal.proofs.Replaying.{Refuses, by_replay, from_start}
use Rattle.journal.proofs.Totals.{totals_told}
use Rattle.journal.proofs.Agrees.{answered-agrees, agrees_so, none_told, all_agree, first-told}
use Rattle.demands.specs.Answered.{one_of}
use Rattle.demands.specs.InTheJournal.{ReplayAnswered, ReplayEnds, Added, Recorded, AllRecorded, AllAnswered}

-- by what an option holds
by_option : {A P : Type 0} (o : Option A) → (o ≡ None → P) → ((a : A) → o ≡ Some a → P) → P
by_option None none some = none refl
by_option (Some a) none some = some a refl

-- Which number exactly when: the replay ends as keys and journal say, and in no other way.
abbrev end_back : ℕ → Option Stop
end_back n = get_or (None ∷ Some BadRecord ∷ Some TooLong ∷ Some UnknownKey ∷ Some BadKeys ∷ []) (n - 22) None

end_of : (e : Option Stop) → end_back (number_of_end e) ≡ e
end_of None = refl
end_of (Some BadRecord) = refl
end_of (Some TooLong) = refl
end_of (Some UnknownKey) = refl
end_of (Some BadKeys) = refl

module _ (k : LuossavinKeys) (journal : List ℕ) (small : AreBytes journal) where
  pub exported_replay-ends : ReplayEnds k journal (replay (keys_of k) journal)
  exported_replay-ends =
      by_test (bad_keys (keys_of k)) (λ e. inl (e, bad-keys (keys_of k) journal e)) (λ e. inr (e, ends_so (keys_of k) journal e small))

  pub exported_replay-alone : (x : Replayed) → ReplayEnds k journal x → host_replay k journal ≡ told_of x
  unfolding host_replay
  exported_replay-alone x (inl (e, f)) = ap told_of (bad-keys (keys_of k) journal e ∙ sym f)
  exported_replay-alone x (inr (e, f)) = ap told_of (sym (ends-alone (keys_of k) journal e x small f))

  -- the number tells how it ended
  pub exported_replay-number : (e : Option Stop) → (host_replay k journal).number ≡ number_of_end e → ended (replay (keys_of k) journal) ≡ e
  unfolding host_replay told_of
  exported_replay-number e n = sym (end_of (ended (replay (keys_of k) journal))) ∙ ap end_back n ∙ end_of e

-- the first difference as it is told: whether there is one, and which
module _ (d : Option Difference) where
  told_or-none : (differs_told d ≡ 1) ⊎ (differs_told d ≡ 0)
  told_or-none = by_option d (λ e. rw e (inr refl)) (λ f e. rw e (inl refl))

  none_if_none-told : differs_told d ≡ 0 → (difference_told d ≡ record { index = 0; place = 0 }) × (d ≡ None)
  none_if_none-told z =
      by_option d (λ e. rw e (refl, refl)) (λ f e. let y : ◌≡◌ {A = ℕ} 1 0 = rw e at z in absurd (omega arith))

  inside_if_told : (n : ℕ) → OfRecords n d → differs_told d ≡ 1 → (difference_told d).index < n
  inside_if_told n h z =
      by_option d (λ e. let y : ◌≡◌ {A = ℕ} 0 1 = rw e at z in absurd (omega arith)) (λ f e. rw e (rw e at h))

-- What is told of the calls that were replayed, however it ended.
module _ (k : LuossavinKeys) (journal : List ℕ) (small : AreBytes journal) (good : bad_keys (keys_of k) ≡ false) (x : Replayed)
    (ends : Ends (keys_in (keys_of k)) journal 0 nothing x) where
  abbrev ks : List Sm4Cipher
  ks = keys_in (keys_of k)

  -- the totals are theirs
  pub exported_totals : Totals ks ends.calls (report_of x)
  exported_totals = totals_told ks journal x ends

  -- the first that differs, by its count and its place
  pub exported_first-told : (es fs : List Entry) (e : Entry) → ends.calls ≡ es ++ e ∷ fs → NoneDiffers ks es → differs ks e ≡ true
      → ((host_replay k journal).differs ≡ 1) × ((host_replay k journal).first_record ≡ length es)
      × ((host_replay k journal).first_place ≡ length (stored es))
  unfolding told_of
  exported_first-told es fs e c n d =
      let told = exported_replay-alone k journal small x (inr (good, ends)) in
      rw (told, first-told ks journal x ends es fs e c n d) (refl, refl, refl)

  all_answered : (es : List Entry) → NoneDiffers ks es → AllAnswered k es
  all_answered [] n = tt
  all_answered (e ∷ es) (n, ns) = (agrees_so ks e n, all_answered es ns)

  -- where none is told, every call answers now what was recorded of it
  pub exported_none-told : (host_replay k journal).differs ≡ 0 → AllAnswered k ends.calls
  unfolding told_of
  exported_none-told z =
      let told = rw (exported_replay-alone k journal small x (inr (good, ends))) at z in
      all_answered ends.calls (all_agree ks journal x ends (none_if_none-told (report_of x).first told).1)

-- Calls recorded as they were answered.
module _ (keys : LuossavinKeys) (e : Entry) (r : Recorded keys e) where
  abbrev c : Sm4Cipher
  c = key_of e.key (keys_in (keys_of keys))

  -- the exported call on the record's fields is the journal's
  host_is : host_mode_call e.direction r.mode r.key e.label e.«data» e.iv r.out ≡ call_into c e r.out
  unfolding host_mode_call call_into
  host_is =
      ⊎_elim (λ (m : r.mode ≡ e.mode). rw (m, r.lent))
      (λ (h : (4 < r.mode) × (4 < e.mode)). rw (lt-ltb 4 r.mode h.0, lt-ltb 4 e.mode h.1)) r.same-mode

  as_answered : answered_by (recomputed c e) e ≡ e
  as_answered =
      let short = r.replayable.short in
      let n : (recomputed c e).head.number ≡ e.number = sym (r.number ∙ rw (host_is, any_output-head c e short r.out r.room)) in
      let t : result (recomputed c e) ≡ e.output = sym (r.output ∙ rw host_is (any_output-result c e short r.out r.room)) in
      rw (n, t)

  recorded-agrees : differs (keys_in (keys_of keys)) e ≡ false
  recorded-agrees = rw as_answered at (answered-agrees (keys_in (keys_of keys)) e)

all_good : (keys : LuossavinKeys) (es : List Entry) → AllRecorded keys es
    → AllReplayable (keys_in (keys_of keys)) es × NoneDiffers (keys_in (keys_of keys)) es
all_good keys [] a = (tt, tt)
all_good keys (e ∷ es) (r, a) = let (p, q) = all_good keys es a in ((r.replayable, p), (recorded-agrees keys e r, q))

-- Calls that a host made under keys that are lent, recorded one behind the other as they were answered, are replayed to the end, and
-- none differs.
module _ (keys : LuossavinKeys) (good : bad_keys (keys_of keys) ≡ false) (es : List Entry) (all : AllRecorded keys es) where
  night_told : host_replay keys (stored es) ≡ told_of (done (counted_all (keys_in (keys_of keys)) es 0 nothing))
  unfolding host_replay
  night_told = rw (replayed_whole (keys_of keys) good es (all_good keys es all).0)

  pub exported_night_replayed : (host_replay keys (stored es)).number ≡ 0
  unfolding told_of
  exported_night_replayed = rw night_told

  pub exported_night_agrees : (host_replay keys (stored es)).differs ≡ 0
  unfolding told_of
  exported_night_agrees =
      let ks = keys_in (keys_of keys) in
      let (p, q) = all_good keys es all in
      let ends : Ends ks (stored es) 0 nothing (done (counted_all ks es 0 nothing)) =
      record { calls = es; rest = []; split = sym (append-nil (stored es)); replayable = p; why = refl; place = refl; report = refl } in
      rw (night_told, none_told ks (stored es) _ ends q)

-- so is what the writer wrote of one
module _ (keys : LuossavinKeys) (good : bad_keys (keys_of keys) ≡ false) (e : Entry) (r : Recorded keys e) (o : List ℕ) (n : ℕ)
    (wrote : (write e o).wrote ≡ Ok n) where
  is_journal : take n (write e o).bytes ≡ stored (e ∷ [])
  unfolding write stored
  is_journal =
      let short = r.replayable.short in
      by_test (ltb (length o) (length (written e)))
      (λ f. let z : Err NoRoom ≡ Ok n = rw (short, f) at wrote in let y : ◌≡◌ {A = ℕ} 0 1 = cc in absurd (omega arith))
      (λ f.
      let z : Ok (length (written e)) ≡ Ok n = rw (short, f) at wrote in
      let m : n ≡ length (written e) = cc in
      rw (short, f, m, take-append_seam, append-nil))

  pub exported_written-agrees : ((host_replay keys (take n (write e o).bytes)).number ≡ 0)
      × ((host_replay keys (take n (write e o).bytes)).differs ≡ 0)
  exported_written-agrees =
      rw is_journal (exported_night_replayed keys good (e ∷ []) (r, tt), exported_night_agrees keys good (e ∷ []) (r, tt))

-- Two journals joined.
told-behind : (e : Stop) (n m : ℕ) → cond (eqb (number_of_end (Some e)) 0) n m ≡ m
told-behind BadRecord n m = refl
told-behind TooLong n m = refl
told-behind UnknownKey n m = refl
told-behind BadKeys n m = refl

behind-place : (size : ℕ) (r : Report) (y : Replayed) → place_told (behind_report size r y)
    ≡ cond (eqb (number_of_end (ended y)) 0) 0 (size + place_told y)
unfolding behind_report
behind-place size r (Ok s) = refl
behind-place size r (Err x) = sym (told-behind x.why 0 (size + x.place))

behind-end : (size : ℕ) (r : Report) (y : Replayed) → ended (behind_report size r y) ≡ ended y
unfolding behind_report
behind-end size r (Ok s) = refl
behind-end size r (Err x) = refl

behind-told : (size : ℕ) (r : Report) (y : Replayed) → report_of (behind_report size r y) ≡ added size r (report_of y)
unfolding behind_report
behind-told size r (Ok s) = refl
behind-told size r (Err x) = refl

behind-added : (size : ℕ) (x y : Replayed) → Added size (told_of x) (told_of y) (told_of (behind_report size (report_of x) y))
unfolding told_of added
behind-added size x y =
    let r = report_of x in
    let s = report_of y in
    rw (behind-end size r y, behind-place size r y, behind-told size r y)
    (by_option r.first
    (λ f. rw f (by_option s.first (λ g. rw g (search arith)) (λ e g. rw g (search arith))))
    (λ d f. rw f (search arith)))

pub exported_joined : (k : LuossavinKeys) (a b : List ℕ) → (host_replay k a).number ≡ 0
    → Added (length a) (host_replay k a) (host_replay k b) (host_replay k (a ++ b))
unfolding host_replay told_of
exported_joined k a b whole = rw (joined (keys_of k) a b whole) (behind-added (length a) (replay (keys_of k) a) (replay (keys_of k) b))

-- Demand 1.
known-end : (e : Option Stop) → one_of (number_of_end e) (0 ∷ 23 ∷ 24 ∷ 25 ∷ 26 ∷ []) ≡ true
known-end None = refl
known-end (Some BadRecord) = refl
known-end (Some TooLong) = refl
known-end (Some UnknownKey) = refl
known-end (Some BadKeys) = refl

-- a record that is refused is so as 23, 24 or 25
stopped : (ks : List Sm4Cipher) (b : List ℕ) (e : Stop) → Refuses ks b e
    → (number_of_end (Some e) ≡ 0 → ⊥) × (number_of_end (Some e) < 26)
stopped ks b BadKeys w = elim w [ ]
stopped ks b BadRecord w = (λ z. omega arith, omega arith)
stopped ks b TooLong w = (λ z. omega arith, omega arith)
stopped ks b UnknownKey w = (λ z. omega arith, omega arith)

-- a journal that is replayed to its end has no place, and no record ends with bad keys
the_ending : (k : Keys) (journal : List ℕ)
    → (number_of_end (ended (replay k journal)) ≡ 0 → place_told (replay k journal) ≡ 0)
    × (number_of_end (ended (replay k journal)) ≡ 26 → replay k journal ≡ refused BadKeys 0 nothing)
the_ending k journal =
    by_test (bad_keys k) (λ e. rw (bad-keys k journal e) (λ _. refl, λ _. refl))
    (λ e.
    let (place, known) =
    by_replay (keys_in k) (λ b place r x. (number_of_end (ended x) ≡ 0 → place_told x ≡ 0) × (number_of_end (ended x) < 26))
    (λ b place r z. omega arith) (λ b place r some e w. let s = stopped (keys_in k) b e w in (λ z. absurd (s.0 z), s.1))
    (λ b place r x p q. q) journal 0 nothing in
    rw (from_start k journal e) (place, λ z. absurd (omega arith)))

pub exported_replay-answers : (k : LuossavinKeys) (journal : List ℕ) → ReplayAnswered (host_replay k journal)
unfolding host_replay told_of
exported_replay-answers k journal =
    let x = replay (keys_of k) journal in
    let first = first_replayed (keys_of k) journal in
    record {
      numbered = known-end (ended x);
      by_mode = (replay_adds_up (keys_of k) journal).by_mode;
      by_answer = (replay_adds_up (keys_of k) journal).by_answer;
      done = (the_ending (keys_of k) journal).0;
      bad-keys = λ z. ap told_of ((the_ending (keys_of k) journal).1 z);
      differs = told_or-none (report_of x).first;
      first = λ z. inside_if_told (report_of x).first (report_of x).records first z;
      none = λ z. let n = (none_if_none-told (report_of x).first z).0 in rw n (refl, refl);
    }
