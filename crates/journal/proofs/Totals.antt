-- The report has the exact totals of the calls that were replayed.
use Rattle.journal.proofs.Names.{AddsUp, Ends, Entry, List, Replayed, report_of, Report, Sm4Cipher, Totals, [], ◌+◌, ◌<◌, ◌∷◌, ◌≡◌, answer_now}
use Rattle.journal.proofs.Names.{arith, by_test, cond, count_if, counted, counted_all, counted_under, eqb, eqb-false, eqb-true, get_or}
use Rattle.journal.proofs.Names.{get_or-set_other, get_or-set_same, key_of, length, mode_place, nothing, one_more, refl, replicate, suc}
use Rattle.journal.proofs.Names.{sum_of, sym, written, zero, ℕ}
use Rattle.journal.proofs.Lent.{recomputed-known}
use Rattle.journal.proofs.Counting.{mode-below_6}
use Rattle.journal.proofs.Sums.{adds_nothing, adds_counted}

-- a count at i, once one more was counted at j
one_more_at : (l : List ℕ) (i j : ℕ) → j < length l → get_or (one_more j l) i 0 ≡ get_or l i 0 + cond (eqb j i) 1 0
one_more_at l i j h =
    by_test (eqb j i) (λ e. let q : j ≡ i = eqb-true j i e in rw (e, ← q) (get_or-set_same l j (get_or l j 0 + 1) 0 h))
    (λ e. rw (e, get_or-set_other l j i (get_or l j 0 + 1) 0 (λ q. eqb-false j i e (sym q))) (omega arith))

none-at : (n i : ℕ) → ◌≡◌ {A = ℕ} (get_or (replicate n 0) i 0) 0
none-at zero i = refl
none-at (suc n) zero = refl
none-at (suc n) (suc i) = none-at n i

-- r' is r with the totals of the calls added
record AddedTotals (ks : List Sm4Cipher) (es : List Entry) (r r' : Report) : Type 0 where
  records : r'.records ≡ r.records + length es
  by_mode : (i : ℕ) → get_or r'.by_mode i 0 ≡ get_or r.by_mode i 0 + count_if (λ e. eqb (mode_place e.mode) i) es
  by_answer : (i : ℕ) → get_or r'.by_answer i 0 ≡ get_or r.by_answer i 0 + count_if (λ e. eqb (answer_now ks e).head.number i) es
  bytes_in : r'.bytes_in ≡ r.bytes_in + sum_of (λ e. length e.«data») es
  bytes_out : r'.bytes_out ≡ r.bytes_out + sum_of (λ e. (answer_now ks e).head.size) es

module _ (ks : List Sm4Cipher) where
  totals_from : (es : List Entry) (place : ℕ) (r : Report) → AddsUp r → AddedTotals ks es r (counted_all ks es place r)
  unfolding counted_all counted count_if sum_of
  totals_from [] place r a = omega arith
  totals_from (e ∷ es) place r a =
      let t = totals_from es (place + length (written e)) (counted_under ks e place r) (adds_counted ks e place r a) in
      let m = mode-below_6 e.mode in
      let n = recomputed-known (key_of e.key ks) e in
      record {
        records = omega (arith, t.records);
        by_mode = λ i. omega (arith, t.by_mode i, one_more_at r.by_mode i (mode_place e.mode) (omega arith));
        by_answer = λ i. omega (arith, t.by_answer i, one_more_at r.by_answer i (answer_now ks e).head.number (omega arith));
        bytes_in = omega (arith, t.bytes_in);
        bytes_out = omega (arith, t.bytes_out);
      }

-- However a replay ends, its report has the totals of the calls that were replayed.
pub totals_told : (ks : List Sm4Cipher) (b : List ℕ) (x : Replayed) (ends : Ends ks b 0 nothing x) → Totals ks ends.calls (report_of x)
totals_told ks b x ends =
    let t = totals_from ks ends.calls 0 nothing adds_nothing in
    rw ends.report
    (record {
      records = omega (arith, t.records);
      by_mode = λ i. omega (arith, t.by_mode i, none-at 6 i);
      by_answer = λ i. omega (arith, t.by_answer i, none-at 32 i);
      bytes_in = omega (arith, t.bytes_in);
      bytes_out = omega (arith, t.bytes_out);
    })
