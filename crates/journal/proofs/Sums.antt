-- Calls by answer, and calls by mode, sum to the records; a first difference is one of them.
use Rattle.journal.proofs.Names.{AddsUp, Bool, Difference, Entry, Keys, List, None, OfRecords, Option, Report, Sm4Cipher, Some, report_of, [], ◌+◌, ◌<◌, ◌∙◌, ◌∷◌}
use Rattle.journal.proofs.Names.{◌≡◌, ap, arith, counted, counted_under, differs, false, first_of, get_or, key_of, length}
use Rattle.journal.proofs.Names.{length-set, mode_place, nothing, one_more, recomputed, refl, replay, set, suc, total, true, zero, ℕ}
use Rattle.journal.proofs.Lent.{recomputed-known}
use Rattle.journal.proofs.Counting.{mode-below_6}
use Rattle.journal.proofs.Replaying.{every_report}

total-set : (l : List ℕ) (i v : ℕ) → i < length l → total (set l i v) + get_or l i 0 ≡ total l + v
unfolding total
total-set [] i v h = absurd (omega arith)
total-set (x ∷ l) zero v h = omega arith
total-set (x ∷ l) (suc i) v h = omega (arith, total-set l i v (omega arith))

total-one_more : (l : List ℕ) (i : ℕ) → i < length l → total (one_more i l) ≡ total l + 1
total-one_more l i h = omega (arith, total-set l i (get_or l i 0 + 1) h)

pub adds_nothing : AddsUp nothing
unfolding total
adds_nothing = record { modes = refl; answers = refl; by_mode = refl; by_answer = refl }

pub adds_counted : (ks : List Sm4Cipher) (e : Entry) (place : ℕ) (r : Report) → AddsUp r → AddsUp (counted_under ks e place r)
unfolding counted
adds_counted ks e place r a =
    let x = recomputed (key_of e.key ks) e in
    let m = mode-below_6 e.mode in
    let n = recomputed-known (key_of e.key ks) e in
    record {
      modes = length-set r.by_mode _ _ ∙ a.modes;
      answers = length-set r.by_answer _ _ ∙ a.answers;
      by_mode = total-one_more r.by_mode (mode_place e.mode) (omega arith) ∙ ap (λ (k : ℕ). k + 1) a.by_mode;
      by_answer = total-one_more r.by_answer x.head.number (omega arith) ∙ ap (λ (k : ℕ). k + 1) a.by_answer;
    }

-- However a replay ends, the calls by answer sum to the records replayed, and so do the calls by mode.
pub replay_adds_up : (k : Keys) (journal : List ℕ) → AddsUp (report_of (replay k journal))
replay_adds_up = every_report AddsUp adds_counted adds_nothing

-- A first difference is one of the records replayed.
first_counted : (t : Bool) (n place : ℕ) (d : Option Difference) → OfRecords n d → OfRecords (n + 1) (first_of t n place d)
first_counted t n place (Some d) a = omega arith
first_counted true n place None a = omega arith
first_counted false n place None a = tt

pub first_replayed : (k : Keys) (journal : List ℕ)
    → OfRecords (report_of (replay k journal)).records (report_of (replay k journal)).first
unfolding counted
first_replayed =
    every_report (λ r. OfRecords r.records r.first) (λ ks e place r a. first_counted (differs ks e) r.records place r.first a) tt
