-- Where a shelf breaks off: all is in order where no job has two current records, and otherwise less than all; so a shelf is bad
-- exactly where it is not in order up to its used count.
use Rattle.shelf.proofs.Names.{AreBytes, Head, InOrder, List, Record, [], ◌&&◌, ◌++◌, ◌+◌, ◌-◌, ◌<◌, ◌∙◌, ◌∷◌, ◌≡◌, ◌≤◌, and_left}
use Rattle.shelf.proofs.Names.{and_right, ap, append_assoc, append-nil, ap₂, arith, bad_shelf, below-drop, below-take, by_test, checked, drop}
use Rattle.shelf.proofs.Names.{eq-eqb, eqb, eqb-true, false, has_current, is_current_of, le-ltb, length, length-append}
use Rattle.shelf.proofs.Names.{length-take-le, ltb, ltb-false, ne_eqb, not, not-false, or-false, or-true, records, refl, sound_from}
use Rattle.shelf.proofs.Names.{sound_up_to, stored, sub-zero, sym, take, take-add, take-length, those, true, two_current, written}
use Rattle.shelf.proofs.Names.{zero-add, ℕ}
use Rattle.std.specs.Prelude.{Ok, Err}
use Rattle.shelf.specs.declared.NotKept.{NotKept}
use Rattle.shelf.specs.declared.Unshelved.TheVariants.{BadShelf}
use Rattle.shelf.proofs.Reading.{length-written, records-empty, stored-within}
use Rattle.shelf.proofs.ReadsProper.{between, Turn, entry, stored-records, records-stored, more_proper, records-proper}
use Rattle.shelf.proofs.Walks.{none-current, or_left, or_right}
use Rattle.shelf.proofs.Putting.{stored-new, those-append}
use Rattle.shelf.proofs.Current.{current-none, own_current, at_most_one, no_two}

-- it is no second one
first : (passed : List Record) (r : Record) (rs : List Record) → two_current (passed ++ (r ∷ rs)) ≡ false
    → r.current && has_current r.job passed ≡ false
unfolding those
first passed r rs f =
    by_test r.current
    (λ e.
    let all = rw (those-append, length-append, own_current r e) at (at_most_one (passed ++ (r ∷ rs)) f r.job) in
    rw e (current-none r.job passed (omega arith)))
    (λ e. rw e)

sound_all : (passed rs : List Record) → two_current (passed ++ rs) ≡ false → sound_from passed rs ≡ length (stored rs)
unfolding sound_from stored
sound_all passed [] e = refl
sound_all passed (r ∷ rs) e =
    rw (first passed r rs e, sound_all (passed ++ (r ∷ [])) rs (rw append_assoc e)) (sym (length-append (written r) (stored rs)))

-- one more, that is no second one
still_single : (passed : List Record) (r : Record) → two_current passed ≡ false → r.current && has_current r.job passed ≡ false
    → two_current (passed ++ (r ∷ [])) ≡ false
unfolding those
still_single passed r e f =
    no_two (passed ++ (r ∷ []))
    (λ job. rw (those-append, length-append)
    (by_test (is_current_of job r)
    (λ g.
    let same : r.job ≡ job = eqb-true r.job job (and_right r.current _ g) in
    let none : has_current job passed ≡ false = rw (and_left r.current _ g, same) at f in
    rw (g, none-current job passed none) (omega arith))
    (λ g. rw g (omega (arith, at_most_one passed e job)))))

sound_less : (passed rs : List Record) → two_current passed ≡ false → two_current (passed ++ rs) ≡ true
    → sound_from passed rs < length (stored rs)
unfolding sound_from stored
sound_less passed [] e f =
    let g = rw append-nil at f in
    let z : ◌≡◌ {A = ℕ} 0 1 = cc in absurd (omega arith)
sound_less passed (r ∷ rs) e f =
    by_test (r.current && has_current r.job passed) (λ g. rw (g, length-append) (omega (arith, length-written r)))
    (λ g.
    let more = sound_less (passed ++ (r ∷ [])) rs (still_single passed r e g) (rw append_assoc f) in
    rw (g, length-append) (omega arith))

-- how far a walk that looks back has come: `at` bytes are passed, all of them records
pub record Passing (s : List ℕ) (at : ℕ) : Type 0 where
  pub within : at ≤ length s
  pub whole : length (stored (records (take at s))) ≡ at
  pub sum : at + sound_from (records (take at s)) (records (between at (length s) s)) ≡ sound_up_to (records s)

pub passing_starts : (s : List ℕ) → Passing s 0
unfolding stored
passing_starts s =
    record { within = omega arith; whole = rw records-empty; sum = rw (records-empty, sub-zero, take-length, zero-add) }

module _ {s : List ℕ} {at : ℕ} (p : Passing s at) where
  pub passed_all : records (between at (length s) s) ≡ [] → at ≡ sound_up_to (records s)
  unfolding sound_from
  passed_all e = omega (arith, rw e at p.sum)

  module _ {h : Head} (turn : Turn s (length s) at h) where
    pub second : h.current && has_current h.job (records (take at s)) ≡ true → at ≡ sound_up_to (records s)
    unfolding sound_from
    second e = omega (arith, rw (turn.reads, e) at p.sum)

    -- the records passed, with this one
    module _ (small : AreBytes s) where
      passed_more : records (take (at + h.size) s) ≡ records (take at s) ++ (entry (between at (length s) s) h ∷ [])
      passed_more =
          let P = records (take at s) in
          let passed = below-take 256 at s small in
          let here = below-take 256 (length s - at) (drop at s) (below-drop 256 at s small) in
          let before = stored-records (take at s) passed (p.whole ∙ sym (length-take-le at s p.within)) in
          ap records (take-add at h.size s ∙ ap₂ ◌++◌ (sym before) (sym (turn.bytes here)) ∙ sym (stored-new _ P))
          ∙ records-stored _ (more_proper P (records-proper (take at s) passed) (turn.proper here))

      pub passing_on : h.current && has_current h.job (records (take at s)) ≡ false → Passing s (at + h.size)
      unfolding sound_from
      passing_on f =
          record {
            within = turn.inside;
            whole = rw (passed_more, stored-new, length-append, p.whole, turn.whole);
            sum = rw passed_more (omega (arith, rw (turn.reads, f, turn.whole) at p.sum));
          }

module _ (shelf : List ℕ) (used : ℕ) where
  pub bad-records : length shelf ≤ 65536 → used ≤ length shelf
      → not (eqb (sound_up_to (records (take used shelf))) used) ≡ bad_shelf shelf used
  unfolding bad_shelf two_current
  bad-records h k =
      let rs = records (take used shelf) in
      let n = stored-within (take used shelf) in
      let l : length (take used shelf) ≡ used = length-take-le used shelf k in
      rw (le-ltb 65536 (length shelf) h, le-ltb (length shelf) used k)
      (by_test (two_current rs)
      (λ e. let less = sound_less [] rs refl e in rw (e, ne_eqb (sound_up_to rs) used (λ f. omega arith), or-true))
      (λ e. rw (e, sound_all [] rs e, or-false)))

  pub in_order : bad_shelf shelf used ≡ false → InOrder shelf used
  unfolding bad_shelf
  in_order e =
      let e₁ = or_right (ltb 65536 (length shelf)) _ e in
      let e₂ = or_right (ltb (length shelf) used) _ e₁ in
      record {
        size = ltb-false _ _ (or_left _ _ e);
        within = ltb-false _ _ (or_left _ _ e₁);
        fills = eqb-true _ _ (not-false _ (or_left _ _ e₂));
        single = or_right (not (eqb (length (stored (records (take used shelf)))) used)) _ e₂;
      }

  -- and the other way round
  pub not-bad : InOrder shelf used → bad_shelf shelf used ≡ false
  unfolding bad_shelf
  not-bad o = rw (le-ltb _ _ o.size, le-ltb _ _ o.within, eq-eqb _ _ o.fills, o.single)

-- what a call is told of a shelf first
pub refused : (shelf : List ℕ) (used : ℕ) {x : NotKept} → Err x ≡ checked shelf used
    → (x ≡ record { why = BadShelf; used = used }) × (bad_shelf shelf used ≡ true)
refused shelf used {x} e =
    by_test (bad_shelf shelf used) (λ f. let z = rw f at e in (cc, f))
    (λ f. let z = rw f at e in absurd cc)

pub passed : (shelf : List ℕ) (used : ℕ) {u : Unit {0}} → Ok u ≡ checked shelf used → bad_shelf shelf used ≡ false
passed shelf used {u} e =
    by_test (bad_shelf shelf used) (λ f. let z = rw f at e in absurd cc) (λ f. f)
