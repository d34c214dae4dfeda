-- The report of two journals joined is their reports added, where the first is replayed to its end: what a journal adds to a report does
-- not depend on the report.
use Rattle.journal.proofs.Names.{AddsUp, Bool, Difference, Entry, Keys, List, None, Option, Recomputed, Replayed, Report}
use Rattle.journal.proofs.Names.{Sm4Cipher, Some, Stands, [], ended, report_of}
use Rattle.journal.proofs.Names.{◌++◌, ◌+◌, ◌<◌, ◌∙◌, ◌∷◌, ◌≡◌, add_assoc, add-zero, added, ap, arith, bad_keys, behind_report}
use Rattle.journal.proofs.Names.{by_test, counted, counted_under, drop, drop-append-le, drop_of_length-le, earlier, false}
use Rattle.journal.proofs.Names.{first_of, front, judged, key_of, keys_in, length, length-drop, mode_place, nothing, number_of_end}
use Rattle.journal.proofs.Names.{one_more, recomputed, refl, replay, replay_from, replay_one, replicate, size_at, suc, sums, sym}
use Rattle.journal.proofs.Names.{tail_is, tailed, take, take-append-le, true, zero, ℕ}
use Rattle.journal.proofs.Lent.{recomputed-known}
use Rattle.journal.proofs.Counting.{same-report, mode-below_6}
use Rattle.journal.proofs.Sums.{adds_counted, replay_adds_up, adds_nothing}
use Rattle.journal.proofs.Replaying.{from_end, from_refused, from_on, by_replay, Passes, refuses, counts, passed, from_start}
use Rattle.journal.proofs.Standing.{stands, starts, size-within, starts_in, front_in, size_in}

sums_more : (a b : List ℕ) (i : ℕ) → i < length a → i < length b → sums a (one_more i b) ≡ one_more i (sums a b)
unfolding sums
sums_more [] b i h k = absurd (omega arith)
sums_more (x ∷ a) [] i h k = absurd (omega arith)
sums_more (x ∷ a) (y ∷ b) zero h k = rw (add_assoc x y 1)
sums_more (x ∷ a) (y ∷ b) (suc i) h k = ap (λ (l : List ℕ). (x + y) ∷ l) (sums_more a b i (omega arith) (omega arith))

sums_none : (a : List ℕ) (n : ℕ) → length a ≡ n → sums a (replicate n 0) ≡ a
unfolding sums
sums_none [] n h = refl
sums_none (x ∷ a) n h = rw (← h, add-zero x, sums_none a (length a) refl)

-- the first difference of the two, where the record at a place of the second differs or does not
first-added : (t : Bool) (d e : Option Difference) (n m p place : ℕ)
    → first_of t (n + m) (p + place) (earlier d n p e) ≡ earlier d n p (first_of t m place e)
first-added t (Some d) e n m p place = refl
first-added t None (Some e) n m p place = refl
first-added true None None n m p place = refl
first-added false None None n m p place = refl

earlier_none : (d : Option Difference) (n p : ℕ) → earlier d n p None ≡ d
earlier_none (Some d) n p = refl
earlier_none None n p = refl

module _ (p : ℕ) (r : Report) (adds : AddsUp r) where
  pub added_none : added p r nothing ≡ r
  unfolding added
  added_none =
      same-report (omega arith) (sums_none r.by_mode 6 adds.modes) (sums_none r.by_answer 32 adds.answers) (omega arith)
      (omega arith) (earlier_none r.first r.records p)

  added-counted : (e : Entry) (x : Recomputed) (place : ℕ) (s : Report) → AddsUp s → x.number < 27
      → counted e x (p + place) (added p r s) ≡ added p r (counted e x place s)
  unfolding added counted
  added-counted e x place s like known =
      let m = mode-below_6 e.mode in
      same-report (omega arith) (sym (sums_more r.by_mode s.by_mode (mode_place e.mode) (omega arith) (omega arith)))
      (sym (sums_more r.by_answer s.by_answer x.number (omega arith) (omega arith))) (omega arith) (omega arith)
      (first-added x.differs r.first s.first r.records s.records p place)

  pub from_added : (ks : List Sm4Cipher) (b : List ℕ) (place : ℕ) (s : Report) → AddsUp s
      → replay_from ks b (p + place) (added p r s) ≡ behind_report p r (replay_from ks b place s)
  unfolding behind_report
  from_added ks =
      by_replay ks (λ b place s x. AddsUp s → replay_from ks b (p + place) (added p r s) ≡ behind_report p r x)
      (λ b place s e like. from_end ks b (p + place) (added p r s) e)
      (λ b place s h e w like.
      from_refused ks b (p + place) (added p r s) h e w)
      (λ b place s x q more like.
      let c = key_of (front b).key ks in
      let known = recomputed-known c (front b) in
      from_on ks b (p + place) (added p r s) q
      ∙ rw (add_assoc p place (size_at b), added-counted (front b) (judged (front b) (recomputed c (front b))) place s like known)
      (more (adds_counted ks (front b) place s like)))

module _ (ks : List Sm4Cipher) (b : List ℕ) where
  same_bytes : (a : List ℕ) → Stands a → take (size_at a) (a ++ b) ≡ take (size_at a) a
  same_bytes a s = take-append-le (size_at a) a b (size-within a s)

  -- a record that stands whole is replayed the same, whatever is behind it
  pub one_appended : (a : List ℕ) (place : ℕ) (r : Report) → Stands a → replay_one ks (a ++ b) place r ≡ replay_one ks a place r
  unfolding replay_one
  one_appended a place r s =
      let h = same_bytes a s in
      rw (starts_in a (a ++ b) s h, front_in a (a ++ b) s h, starts a s)

  -- a journal can be replayed a part at a time
  first_on : (a : List ℕ) (place : ℕ) (r : Report) → Passes ks a
      → replay_from ks (a ++ b) place r ≡ replay_from ks (drop (size_at a) a ++ b) (place + size_at a) (counted_under ks (front a) place r)
  first_on a place r p =
      let s = stands a p.0 in
      let h = same_bytes a s in
      let f = front_in a (a ++ b) s h in
      from_on ks (a ++ b) place r (starts_in a (a ++ b) s h, rw f p.1, rw f p.2)
      ∙ rw (f, size_in a (a ++ b) s h, drop-append-le (size_at a) a b (size-within a s))

  -- a turn: the record was measured and replayed; what is to come is written as the borrow checker has it
  pub turn_followed : (a : List ℕ) (place : ℕ) (r : Report) → 0 < length a → number_of_end (ended (replay_one ks a place r)) ≡ 0
      → (n : ℕ) (one : Replayed) → n ≡ size_at a → one ≡ replay_one ks a place r
      → replay_from ks (tailed n a ++ b) (place + n) (report_of one) ≡ replay_from ks (a ++ b) place r
  turn_followed a place r some z n one size replayed =
      let p = passed ks a place r z in
      rw (tail_is a n, size, replayed, ← counts ks a place r p) (sym (first_on a place r p))

  -- a journal that is replayed to its end leaves its report to what is behind it
  goes_on_lem : (a : List ℕ) (place : ℕ) (r : Report) → number_of_end (ended (replay_from ks a place r)) ≡ 0
      → replay_from ks (a ++ b) place r ≡ replay_from ks b (place + length a) (report_of (replay_from ks a place r))
  goes_on_lem =
      by_replay ks
      (λ a place r x. number_of_end (ended x) ≡ 0 → replay_from ks (a ++ b) place r ≡ replay_from ks b (place + length a) (report_of x))
      (λ a place r h w. let none : a ≡ [] = drop_of_length-le a {i = 0} (omega arith) in rw (none, add-zero place))
      (λ a place r h e w z. absurd ((refuses ks a place r e w).1 z))
      (λ a place r x p more w.
      let e : place + size_at a + length (drop (size_at a) a) ≡ place + length a =
      omega (arith, size-within a (stands a p.0), length-drop (size_at a) a) in
      first_on a place r p ∙ more w ∙ rw e)

module _ (k : Keys) (a b : List ℕ) (whole : number_of_end (ended (replay k a)) ≡ 0) where
  -- where it ends with 0 the keys are good
  good : bad_keys k ≡ false
  unfolding replay
  good = by_test (bad_keys k) (λ e. absurd (omega (arith, rw e at whole))) (λ e. e)

  pub joined : replay k (a ++ b) ≡ behind_report (length a) (report_of (replay k a)) (replay k b)
  joined =
      let r = report_of (replay k a) in
      let adds = replay_adds_up k a in
      let e : 0 + length a ≡ length a + 0 = omega arith in
      from_start k (a ++ b) good ∙ goes_on_lem (keys_in k) b a 0 nothing (rw (from_start k a good) at whole)
      ∙ rw (← from_start k a good, e, from_start k b good)
      (ap {B = Replayed} (λ (s : Report). replay_from (keys_in k) b (length a + 0) s) (sym (added_none (length a) r adds))
      ∙ from_added (length a) r adds (keys_in k) b 0 nothing adds_nothing)
