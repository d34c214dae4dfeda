-- Which number a replay ends with exactly when: it ends as the bytes say that stand there, and in no other way.
use Rattle.journal.proofs.Names.{AllReplayable, AreBytes, BadKeys, BadRecord, Begins, Ends, Entry, Err, Keys, List, Ok, Some, Stop}
use Rattle.journal.proofs.Names.{ended, place_told, refused, report_of}
use Rattle.journal.proofs.Names.{Replayable, Replayed, Report, Sm4Cipher, TooLong, UnknownKey, Why, [], ◌++◌, ◌+◌, ◌<◌, ◌∙◌, ◌∷◌}
use Rattle.journal.proofs.Names.{◌≡◌, add-zero, after_record, ap, append_assoc, append-nil, arith, bad_keys, below-drop, by_test}
use Rattle.journal.proofs.Names.{counted_all, counted_under, done, drop, drop_at, false, front, keys_in, length, length-append, nothing}
use Rattle.journal.proofs.Names.{refl, replay, replay_from, size_at, starts_record, stored, sym, told_place, true, written, ℕ}
use Rattle.journal.proofs.Cases.{clash}
use Rattle.journal.proofs.Standing.{stands, behind-size}
use Rattle.journal.proofs.Replaying.{Passes, Refuses, from_end, from_refused, from_on, by_replay, from_start}
use Rattle.journal.proofs.BothWays.{written_starts, written-front, written-size, front-proper, front-written}

rest-bytes : (a b : List ℕ) → AreBytes (a ++ b) → AreBytes b
rest-bytes a b small = rw (drop_at a b (length a) refl) at (below-drop 256 (length a) (a ++ b) small)

-- a call that stands written in front is read there
module _ {b : List ℕ} (e : Entry) (y : Begins b e) where
  starts_so : starts_record b ≡ true
  starts_so = rw y.split (written_starts e y.proper y.rest)

  front_so : front b ≡ e
  front_so = rw y.split (written-front e y.proper y.rest)

pub nothing_there : {b : List ℕ} (e : Entry) → Begins b e → starts_record b ≡ false → ⊥
nothing_there {b} e y f = clash (starts_record b) (starts_so e y) f

module _ (ks : List Sm4Cipher) where
  -- nothing was replayed, and here it ends
  ends_here : (b : List ℕ) (place : ℕ) (r : Report) (x : Replayed) → Why ks b (ended x)
      → place_told x ≡ told_place (ended x) (place + 0) → report_of x ≡ r → Ends ks b place r x
  unfolding stored counted_all
  ends_here b place r x why told report =
      record { calls = []; rest = b; split = refl; replayable = tt; why = why; place = told; report = report }

  -- what is read there is what stands there
  begins_there : (b : List ℕ) → AreBytes b → starts_record b ≡ true → Begins b (front b)
  begins_there b small e =
      let s = stands b e in
      record { proper = front-proper b small s; rest = after_record b; split = sym (front-written b small s) }

  why_so : (b : List ℕ) (place : ℕ) → AreBytes b → 0 < length b → (e : Stop) → Refuses ks b e
      → Why ks b (Some e) × (place ≡ told_place (Some e) (place + 0))
  why_so b place small h BadRecord s = ((h, λ e y. nothing_there e y s), omega arith)
  why_so b place small h TooLong (s, t) = (record { entry = front b; begins = begins_there b small s; holds = t }, omega arith)
  why_so b place small h UnknownKey (s, t, n) =
      (record { entry = front b; begins = begins_there b small s; holds = (t, n) }, omega arith)
  why_so b place small h BadKeys w = absurd w

  -- one more call before it
  goes_before : (b : List ℕ) (place : ℕ) (r : Report) (x : Replayed) → AreBytes b → Passes ks b
      → Ends ks (drop (size_at b) b) (place + size_at b) (counted_under ks (front b) place r) x → Ends ks b place r x
  unfolding stored counted_all
  goes_before b place r x small p ends =
      let e = front b in
      let t = stands b p.0 in
      let proper = front-proper b small t in
      let whole = front-written b small t in
      let size : size_at b ≡ length (written e) = ap size_at (sym whole) ∙ written-size e proper (after_record b) in
      let s = stored ends.calls in
      let n : place + size_at b + length s ≡ place + length (written e ++ s) = omega (arith, length-append (written e) s) in
      record {
        calls = e ∷ ends.calls;
        rest = ends.rest;
        split = sym whole ∙ rw (← behind-size b t, ends.split, append_assoc);
        replayable = (record { proper = proper; short = p.1; known = p.2 }, ends.replayable);
        why = ends.why;
        place = ends.place ∙ ap (λ (i : ℕ). told_place (ended x) i) n;
        report = ends.report ∙ rw size;
      }

  ends_from : (b : List ℕ) (place : ℕ) (r : Report) → AreBytes b → Ends ks b place r (replay_from ks b place r)
  ends_from =
      by_replay ks (λ b place r x. AreBytes b → Ends ks b place r x) (λ b place r z small. ends_here b place r (done r) z refl refl)
      (λ b place r h e w small. let y = why_so b place small h e w in ends_here b place r _ y.0 y.1 refl)
      (λ b place r x p more small. goes_before b place r x small p (more (below-drop 256 (size_at b) b small)))

  -- the other way: what ends so is what replay ends with
  at-end : (b : List ℕ) (place : ℕ) (r : Report) (e : Stop) → AreBytes b → Why ks b (Some e)
      → refused e (told_place (Some e) place) r ≡ replay_from ks b place r
  at-end b place r BadRecord small why =
      let none = by_test (starts_record b) (λ s. absurd (why.1 (front b) (begins_there b small s))) (λ s. s) in
      sym (from_refused ks b place r why.0 BadRecord none)
  at-end b place r TooLong small why =
      let s = starts_so why.entry why.begins in
      sym (from_refused ks b place r (omega (arith, (stands b s).long)) TooLong (s, rw (front_so why.entry why.begins) why.holds))
  at-end b place r UnknownKey small why =
      let s = starts_so why.entry why.begins in
      let f = front_so why.entry why.begins in
      sym (from_refused ks b place r (omega (arith, (stands b s).long)) UnknownKey (s, rw f why.holds.0, rw f why.holds.1))
  at-end b place r BadKeys small why = absurd why

  -- a call that stands in front is counted
  one_written : (e : Entry) (b : List ℕ) (place : ℕ) (r : Report) → Replayable ks e
      → replay_from ks (written e ++ b) place r ≡ replay_from ks b (place + length (written e)) (counted_under ks e place r)
  one_written e b place r good =
      let w = written e ++ b in
      let f = written-front e good.proper b in
      let starts = written_starts e good.proper b in
      from_on ks w place r (starts, rw f good.short, rw f good.known)
      ∙ rw (f, written-size e good.proper b, drop_at (written e) b (length (written e)) refl)

  all_written : (es : List Entry) (b : List ℕ) (place : ℕ) (r : Report) → AllReplayable ks es
      → replay_from ks (stored es ++ b) place r ≡ replay_from ks b (place + length (stored es)) (counted_all ks es place r)
  unfolding stored counted_all
  all_written [] b place r good = rw (add-zero place)
  all_written (e ∷ es) b place r (good, goods) =
      let n : place + length (written e) + length (stored es) ≡ place + length (written e ++ stored es) =
      omega (arith, length-append (written e) (stored es)) in
      rw (append_assoc (written e) (stored es) b, ← n)
      (one_written e (stored es ++ b) place r good
      ∙ all_written es b (place + length (written e)) (counted_under ks e place r) goods)

  same_stop : (e : Stop) {p p' : ℕ} {r r' : Report} → p ≡ p' → r ≡ r' → refused e p r ≡ refused e p' r'
  same_stop e a b = rw (a, b)

  ends-rest : (p : ℕ) (s : Report) (rest : List ℕ) (x : Replayed) → AreBytes rest → Why ks rest (ended x)
      → place_told x ≡ told_place (ended x) p → report_of x ≡ s → x ≡ replay_from ks rest p s
  ends-rest p s rest (Ok r) small why e f = ap Ok f ∙ sym (from_end ks rest p s why)
  ends-rest p s rest (Err x) small why e f = same_stop x.why e f ∙ at-end rest p s x.why small why

  ends-alone_from : (b : List ℕ) (place : ℕ) (r : Report) (x : Replayed) → AreBytes b → Ends ks b place r x → x ≡ replay_from ks b place r
  ends-alone_from b place r x small ends =
      let p = place + length (stored ends.calls) in
      ends-rest p (counted_all ks ends.calls place r) ends.rest x (rest-bytes (stored ends.calls) ends.rest (rw ends.split at small))
      ends.why ends.place ends.report
      ∙ sym (rw ends.split (all_written ends.calls ends.rest place r ends.replayable))

module _ (k : Keys) (journal : List ℕ) where
  pub bad-keys : bad_keys k ≡ true → replay k journal ≡ refused BadKeys 0 nothing
  unfolding replay
  bad-keys e = rw e

  module _ (good : bad_keys k ≡ false) where
    pub ends_so : AreBytes journal → Ends (keys_in k) journal 0 nothing (replay k journal)
    ends_so small = rw (from_start k journal good) (ends_from (keys_in k) journal 0 nothing small)

    pub ends-alone : (x : Replayed) → AreBytes journal → Ends (keys_in k) journal 0 nothing x → x ≡ replay k journal
    ends-alone x small ends = ends-alone_from (keys_in k) journal 0 nothing x small ends ∙ sym (from_start k journal good)

-- calls that can be replayed, written one behind the other
pub replayed_whole : (k : Keys) → bad_keys k ≡ false → (es : List Entry) → AllReplayable (keys_in k) es
    → replay k (stored es) ≡ done (counted_all (keys_in k) es 0 nothing)
replayed_whole k good es all =
    from_start k (stored es) good ∙ (rw (append-nil (stored es)) at (all_written (keys_in k) es [] 0 nothing all))
    ∙ from_end (keys_in k) [] (0 + length (stored es)) (counted_all (keys_in k) es 0 nothing) refl
