-- Replay goes on record by record: one law by cases of the record in front, and one induction over all of them.
use Rattle.journal.proofs.Names.{BadKeys, BadRecord, Entry, Keys, List, Ok, Replayed, Report, Sm4Cipher, Some, Stop, TooLong}
use Rattle.journal.proofs.Names.{Err, Stopped, ended, refused, report_of}
use Rattle.journal.proofs.Names.{UnknownKey, Within, ◌+◌, ◌<◌, ◌∙◌, ◌≡◌, ◌≤◌, arith, bad_keys, by_test, counted_under, done, drop}
use Rattle.journal.proofs.Names.{eq-eqb, eqb, eqb-false, eqb-true, false, front, has_number, key_of, keys_in, length, length-drop}
use Rattle.journal.proofs.Names.{ne_eqb, nothing, number_of_end, refl, replay, replay_from, replay_one, replay_up_to, size_at, starts_record}
use Rattle.journal.proofs.Names.{suc, sym, too_long, true, zero, ℕ}
use Rattle.journal.proofs.Standing.{stands, size-within, data-within}
use Rattle.journal.proofs.Lent.{recomputed-size}
use Rattle.journal.proofs.Counting.{within-counted}

-- the record at the front of b is counted; or it is refused, and why
abbrev pub Passes : List Sm4Cipher → List ℕ → Type 0
Passes ks b = (starts_record b ≡ true) × (too_long (front b) ≡ false) × (has_number (front b).key ks ≡ true)

abbrev pub Refuses : List Sm4Cipher → List ℕ → Stop → Type 0
Refuses ks b BadRecord = starts_record b ≡ false
Refuses ks b TooLong = (starts_record b ≡ true) × (too_long (front b) ≡ true)
Refuses ks b UnknownKey = (starts_record b ≡ true) × (too_long (front b) ≡ false) × (has_number (front b).key ks ≡ false)
Refuses ks b BadKeys = ⊥

pub by_one : {A : Type 0} (ks : List Sm4Cipher) (b : List ℕ) → ((e : Stop) → Refuses ks b e → A) → (Passes ks b → A) → A
by_one ks b stop on =
    by_test (starts_record b)
    (λ s.
    by_test (too_long (front b)) (λ t. stop TooLong (s, t))
    (λ t. by_test (has_number (front b).key ks) (λ n. on (s, t, n)) (λ n. stop UnknownKey (s, t, n))))
    (stop BadRecord)

pub behind_less : (ks : List Sm4Cipher) (b : List ℕ) → Passes ks b → length (drop (size_at b) b) < length b
behind_less ks b p = omega (arith, size-within b (stands b p.0), data-within b (stands b p.0), length-drop (size_at b) b)

module _ (ks : List Sm4Cipher) (b : List ℕ) (place : ℕ) (r : Report) where
  -- a refusal has a number
  pub refuses : (e : Stop) → Refuses ks b e → (replay_one ks b place r ≡ refused e place r) × (number_of_end (Some e) ≡ 0 → ⊥)
  unfolding replay_one
  refuses BadRecord s = (rw s, λ z. omega arith)
  refuses TooLong (s, t) = (rw (s, t), λ z. omega arith)
  refuses UnknownKey (s, t, n) = (rw (s, t, n), λ z. omega arith)
  refuses BadKeys w = absurd w

  pub counts : Passes ks b → done (counted_under ks (front b) place r) ≡ replay_one ks b place r
  unfolding replay_one
  counts (s, t, n) = rw (s, t, n)

  -- a record that was not refused was counted
  pub passed : number_of_end (ended (replay_one ks b place r)) ≡ 0 → Passes ks b
  passed z = by_one ks b (λ e w. let f = refuses e w in absurd (f.1 (rw f.0 at z))) (λ p. p)

upto_end : (n : ℕ) (ks : List Sm4Cipher) (b : List ℕ) (place : ℕ) (r : Report) → length b ≡ 0 → replay_up_to n ks b place r ≡ done r
unfolding replay_up_to
upto_end zero ks b place r h = refl
upto_end (suc n) ks b place r h = rw (eq-eqb (length b) 0 h)

upto_step : (n m : ℕ) (ks : List Sm4Cipher) (b : List ℕ) (place : ℕ) (r : Report)
    → ((r' : Report) → Passes ks b
    → replay_up_to n ks (drop (size_at b) b) (place + size_at b) r' ≡ replay_up_to m ks (drop (size_at b) b) (place + size_at b) r')
    → replay_up_to (suc n) ks b place r ≡ replay_up_to (suc m) ks b place r
unfolding replay_up_to
upto_step n m ks b place r more =
    by_one ks b (λ e w. rw (refuses ks b place r e w).0)
    (λ p. rw (← counts ks b place r p, more (counted_under ks (front b) place r) p))

-- as many as there are bytes is enough
enough : (n m : ℕ) (ks : List Sm4Cipher) (b : List ℕ) (place : ℕ) (r : Report) → length b ≤ n → length b ≤ m
    → replay_up_to n ks b place r ≡ replay_up_to m ks b place r
enough zero m ks b place r h k =
    upto_end zero ks b place r (omega arith) ∙ sym (upto_end m ks b place r (omega arith))
enough (suc n) zero ks b place r h k =
    upto_end (suc n) ks b place r (omega arith) ∙ sym (upto_end zero ks b place r (omega arith))
enough (suc n) (suc m) ks b place r h k =
    upto_step n m ks b place r
    (λ r' p. let l = behind_less ks b p in enough n m ks (drop (size_at b) b) (place + size_at b) r' (omega arith) (omega arith))

module _ (ks : List Sm4Cipher) (b : List ℕ) (place : ℕ) (r : Report) where
  one_more : replay_from ks b place r ≡ replay_up_to (suc (length b)) ks b place r
  one_more = enough (length b) (suc (length b)) ks b place r (omega arith) (omega arith)

  pub from_end : length b ≡ 0 → replay_from ks b place r ≡ done r
  from_end h = upto_end (length b) ks b place r h

  pub from_refused : 0 < length b → (e : Stop) → Refuses ks b e → replay_from ks b place r ≡ refused e place r
  unfolding replay_up_to
  from_refused h e w = one_more ∙ rw (ne_eqb (length b) 0 (λ z. omega arith), (refuses ks b place r e w).0)

  pub from_stopped : 0 < length b → (x : Stopped) → replay_one ks b place r ≡ Err x → replay_from ks b place r ≡ Err x
  unfolding replay_up_to
  from_stopped h x e = one_more ∙ rw (ne_eqb (length b) 0 (λ z. omega arith), e)

  pub from_on : Passes ks b
      → replay_from ks b place r ≡ replay_from ks (drop (size_at b) b) (place + size_at b) (counted_under ks (front b) place r)
  unfolding replay_up_to
  from_on p =
      let d = drop (size_at b) b in
      let l = behind_less ks b p in
      one_more
      ∙ rw (ne_eqb (length b) 0 (λ z. omega arith), ← counts ks b place r p)
      (enough (length b) (length d) ks d (place + size_at b) (counted_under ks (front b) place r) (omega arith) (omega arith))

  -- a turn: the record in front was replayed
  module _ (more : Report) (replayed : replay_one ks b place r ≡ Ok more) where
    pub turn_passes : Passes ks b
    turn_passes = passed ks b place r (rw replayed refl)

    turn_counts : more ≡ counted_under ks (front b) place r
    turn_counts = let e : Ok more ≡ done (counted_under ks (front b) place r) = sym replayed ∙ sym (counts ks b place r turn_passes) in cc

    pub turn_within : Within place r → Within (place + size_at b) more
    turn_within w =
        rw turn_counts
        (within-counted (front b) _ place (size_at b) r w (data-within b (stands b turn_passes.0))
        (recomputed-size (key_of (front b).key ks) (front b)))

    pub turn_from : replay_from ks (drop (size_at b) b) (place + size_at b) more ≡ replay_from ks b place r
    turn_from = rw turn_counts (sym (from_on turn_passes))

-- What holds at the end of a journal, and where replay stops, and goes on from what is behind a record to the record, holds of all replays.
module _ (ks : List Sm4Cipher) (P : List ℕ → ℕ → Report → Replayed → Type 0)
    (end : (b : List ℕ) (place : ℕ) (r : Report) → length b ≡ 0 → P b place r (done r))
    (stop : (b : List ℕ) (place : ℕ) (r : Report) → 0 < length b → (e : Stop) → Refuses ks b e → P b place r (refused e place r))
    (on : (b : List ℕ) (place : ℕ) (r : Report) (x : Replayed) → Passes ks b
    → P (drop (size_at b) b) (place + size_at b) (counted_under ks (front b) place r) x → P b place r x) where
  up_to : (n : ℕ) (b : List ℕ) (place : ℕ) (r : Report) → length b < n → P b place r (replay_from ks b place r)
  up_to zero b place r h = absurd (omega arith)
  up_to (suc n) b place r h =
      by_test (eqb (length b) 0)
      (λ e. let z = eqb-true (length b) 0 e in rw (from_end ks b place r z) (end b place r z))
      (λ e.
      let some : 0 < length b = omega (arith, eqb-false (length b) 0 e) in
      by_one ks b (λ x w. rw (from_refused ks b place r some x w) (stop b place r some x w))
      (λ p. rw (from_on ks b place r p) (on b place r _ p (up_to n (drop (size_at b) b) _ _ (omega (arith, behind_less ks b p))))))

  pub by_replay : (b : List ℕ) (place : ℕ) (r : Report) → P b place r (replay_from ks b place r)
  by_replay b place r = up_to (suc (length b)) b place r (omega arith)

pub from_start : (k : Keys) (journal : List ℕ) → bad_keys k ≡ false → replay k journal ≡ replay_from (keys_in k) journal 0 nothing
unfolding replay
from_start k journal good = rw good

-- So does what goes on with each record that is counted, of every report.
pub every_report : (P : Report → Type 0)
    → ((ks : List Sm4Cipher) (e : Entry) (place : ℕ) (r : Report) → P r → P (counted_under ks e place r)) → P nothing
    → (k : Keys) (journal : List ℕ) → P (report_of (replay k journal))
unfolding replay
every_report P counted p k journal =
    by_test (bad_keys k) (λ e. rw e p)
    (λ e. rw (from_start k journal e)
    (by_replay (keys_in k) (λ b place r x. P r → P (report_of x)) (λ b place r z q. q) (λ b place r z s w q. q)
    (λ b place r x z more q. more (counted (keys_in k) (front b) place r q)) journal 0 nothing p))
