-- Calls that were recorded as they were answered agree, and only they do; of those that differ the first is told.
use Rattle.journal.proofs.Names.{Ends, Entry, List, None, NoneDiffers, Option, Replayed, Report, Sm4Cipher, Some, Difference, report_of, first_of, [], ◌++◌, ◌+◌, ◌∙◌, ◌∷◌, ◌≡◌, add-zero}
use Rattle.journal.proofs.Names.{answer_now, answered_by, ap, arith, by_test, call_into, counted, counted_all, counted_under, differs}
use Rattle.journal.proofs.Names.{differs_from, eq-eqb, eqb-true, false, key_of, length, length-append, not-false, nothing, refl}
use Rattle.journal.proofs.Names.{result, same_equal, same_refl, stored, sym, true, written, zero-add, ℕ}
use Rattle.journal.proofs.Cases.{or_left, or_right}
use Rattle.journal.proofs.Lent.{result-size}
use Rattle.journal.proofs.Counting.{same_first}

module _ (ks : List Sm4Cipher) (e : Entry) where
  abbrev again : Entry
  again = answered_by (answer_now ks e) e

  -- what was recorded changes nothing of the call
  same-call : answer_now ks again ≡ answer_now ks e
  unfolding call_into
  same-call = refl

  pub answered-agrees : differs ks again ≡ false
  unfolding differs_from
  answered-agrees =
      let x = answer_now ks e in
      let l = result-size (key_of e.key ks) e in
      rw (same-call, eq-eqb x.head.number x.head.number refl, eq-eqb (length (result x)) x.head.size l, same_refl)

  -- A call that agrees is answered now as it was recorded.
  pub agrees_so : differs ks e ≡ false → (e.number ≡ (answer_now ks e).head.number) × (e.output ≡ result (answer_now ks e))
  unfolding differs_from
  agrees_so d = search (or_left, or_right, not-false, eqb-true, same_equal)

-- where the record differs there is one
some_told : (n place : ℕ) (d : Option Difference) → (x : Difference) × (first_of true n place d ≡ Some x)
some_told n place (Some d) = (d, refl)
some_told n place None = (record { index = n; place = place }, refl)

-- The first difference over calls that stand one behind the other.
module _ (ks : List Sm4Cipher) where
  one-agrees : (e : Entry) (place : ℕ) (r : Report) → differs ks e ≡ false → (counted_under ks e place r).first ≡ r.first
  unfolding counted
  one-agrees e place r n = rw n (same_first r.records place r.first)

  -- one that was told stays
  kept : (es : List Entry) (place : ℕ) (r : Report) (d : Difference) → r.first ≡ Some d → (counted_all ks es place r).first ≡ Some d
  unfolding counted_all counted
  kept [] place r d f = f
  kept (e ∷ es) place r d f = kept es (place + length (written e)) (counted_under ks e place r) d (rw f)

  none : (es : List Entry) (place : ℕ) (r : Report) → NoneDiffers ks es → (counted_all ks es place r).first ≡ r.first
  unfolding counted_all
  none [] place r n = refl
  none (e ∷ es) place r (n, ns) = none es (place + length (written e)) (counted_under ks e place r) ns ∙ one-agrees e place r n

  first : (es fs : List Entry) (e : Entry) (place : ℕ) (r : Report) → r.first ≡ None → NoneDiffers ks es → differs ks e ≡ true
      → (counted_all ks (es ++ e ∷ fs) place r).first
      ≡ Some (record { index = r.records + length es; place = place + length (stored es) })
  unfolding counted_all counted stored
  first [] fs e place r f n d =
      let s : (counted_under ks e place r).first ≡ Some (record { index = r.records; place = place }) = rw (f, d) in
      kept fs (place + length (written e)) (counted_under ks e place r) _ s ∙ rw (add-zero r.records, add-zero place)
  first (g ∷ es) fs e place r f (n, ns) d =
      let found : (counted_under ks g place r).first ≡ None = one-agrees g place r n ∙ f in
      let i : r.records + 1 + length es ≡ r.records + length (g ∷ es) = omega arith in
      let p : place + length (written g) + length (stored es) ≡ place + length (written g ++ stored es) =
      omega (arith, length-append (written g) (stored es)) in
      first es fs e (place + length (written g)) (counted_under ks g place r) found ns d ∙ rw (i, p)

  none-differs : (es : List Entry) (place : ℕ) (r : Report) → (counted_all ks es place r).first ≡ None → NoneDiffers ks es
  unfolding counted_all counted
  none-differs [] place r f = tt
  none-differs (e ∷ es) place r f =
      let s = counted_under ks e place r in
      let p = place + length (written e) in
      by_test (differs ks e)
      (λ d.
      let (x, g) = some_told r.records place r.first in
      let told : s.first ≡ Some x = rw d g in
      let both : Some x ≡ None = sym (kept es p s x told) ∙ f in
      cc)
      (λ d. (d, none-differs es p s f))

-- What is told of the first difference, however the replay ends, by the calls that were replayed.
module _ (ks : List Sm4Cipher) (b : List ℕ) (x : Replayed) (ends : Ends ks b 0 nothing x) where
  pub none_told : NoneDiffers ks ends.calls → (report_of x).first ≡ None
  none_told n = ap (λ (r : Report). r.first) ends.report ∙ none ks ends.calls 0 nothing n

  pub all_agree : (report_of x).first ≡ None → NoneDiffers ks ends.calls
  all_agree f = none-differs ks ends.calls 0 nothing (ap (λ (r : Report). r.first) (sym ends.report) ∙ f)

  pub first-told : (es fs : List Entry) (e : Entry) → ends.calls ≡ es ++ e ∷ fs → NoneDiffers ks es → differs ks e ≡ true
      → (report_of x).first ≡ Some (record { index = length es; place = length (stored es) })
  first-told es fs e c n d =
      ap (λ (r : Report). r.first) (ends.report ∙ ap {B = Report} (λ (l : List Entry). counted_all ks l 0 nothing) c)
      ∙ first ks es fs e 0 nothing refl n d ∙ rw (zero-add (length es), zero-add (length (stored es)))
