-- What stands after a put that is done, and after a collection: a shelf in order, the new record under its job, and every other job's
-- current record as it was.
use Rattle.shelf.proofs.Names.{AllProper, AreBytes, InOrder, List, Record, [], ◌<◌, ◌^◌, ◌∙◌, ◌∷◌, ◌≡◌, ◌≤◌, ap, append-nil, arith}
use Rattle.shelf.proofs.Names.{bad_shelf, below-take, by_test, collect_call, collected, current_of, drop-append_seam, eqb, eqb-false}
use Rattle.shelf.proofs.Names.{eqb-true, false, fitted, holding, length, length-append, length-drop, looked_up, lt-ltb, ltb}
use Rattle.shelf.proofs.Names.{ltb-false, ltb-true, new_record, not_higher, over, put_call, put_in, records, refl, stored, sym, take}
use Rattle.shelf.proofs.Names.{take-append_seam, written, ℕ}
use Rattle.shelf.proofs.ReadsProper.{records-stored, records-proper, those-proper, put-proper}
use Rattle.shelf.proofs.Sound.{in_order, not-bad}
use Rattle.shelf.proofs.Putting.{length-current, fitted-fits}
use Rattle.shelf.proofs.Current.{at_most_one, no_two, collected-length, collected_again, current-collected, current-fitted}
use Rattle.shelf.proofs.Current.{current-new, current-kept}
use Rattle.shelf.proofs.FoundPart.{look_up_in, look_up}

-- proper records of a shelf, no two of them current of one job, over a buffer that has room for them
record Fit (rs : List Record) (shelf : List ℕ) : Type 0 where
  proper : AllProper rs
  size : length shelf ≤ 65536
  room : length (stored rs) ≤ length shelf
  one : (job : ℕ) → length (current_of job rs) ≤ 1

module _ {rs : List Record} {shelf : List ℕ} (fit : Fit rs shelf) where
  reads_back : records (take (length (stored rs)) (over (stored rs) shelf)) ≡ rs
  reads_back = rw take-append_seam (records-stored rs fit.proper)

  length_over : length (over (stored rs) shelf) ≡ length shelf
  length_over = simp (length-append, length-drop) (omega (arith, fit.room))

  holds_in_order : InOrder (over (stored rs) shelf) (length (stored rs))
  holds_in_order =
      let l = length_over in
      record {
        size = omega (arith, fit.size);
        within = omega (arith, fit.room);
        fills = rw reads_back;
        single = rw reads_back (no_two rs fit.one);
      }

  -- looking up a job there gives its current record
  looks_up : (job : ℕ) → looked_up (over (stored rs) shelf) (length (stored rs)) job ≡ stored (current_of job rs)
  looks_up job =
      look_up_in (over (stored rs) shelf) (length (stored rs)) holds_in_order job (rw (reads_back, drop-append_seam)) ∙ rw reads_back

-- a collection that is done: a shelf in order, with every job's current record as it was, that collecting again does not change
module _ (shelf : List ℕ) (used : ℕ) (small : AreBytes shelf) (order : InOrder shelf used) where
  abbrev rs : List Record
  rs = records (take used shelf)

  collect_is : collect_call shelf used ≡ holding (collected rs) shelf
  unfolding collect_call
  collect_is = rw (not-bad shelf used order)

  collect_fit : Fit (collected rs) shelf
  collect_fit =
      record {
        proper = those-proper (λ r. r.current) rs (records-proper (take used shelf) (below-take 256 used shelf small));
        size = order.size;
        room = omega (arith, collected-length rs, order.fills, order.within);
        one = λ job. rw (current-collected job rs) (at_most_one rs order.single job);
      }

  pub collect_in_order : let o = collect_call shelf used in InOrder o.bytes o.used
  collect_in_order = rw collect_is (holds_in_order collect_fit)

  pub collect_look_up : (job : ℕ) → let o = collect_call shelf used in looked_up o.bytes o.used job ≡ looked_up shelf used job
  collect_look_up job =
      rw (collect_is, looks_up collect_fit job, look_up shelf used small order job, current-collected job rs)

  pub collect_again : let o = collect_call shelf used in collect_call o.bytes o.used ≡ o
  unfolding collect_call
  collect_again =
      let again = not-bad _ _ (holds_in_order collect_fit) in
      rw (not-bad shelf used order, again, reads_back collect_fit, collected_again rs, drop-append_seam)

module _ (shelf : List ℕ) (used job edition : ℕ) (sealed : List ℕ) where
  -- the bytes of the records current after the put
  abbrev needed : ℕ
  needed = length (stored (collected (put_in shelf used job edition sealed)))

  -- what a put that is done passed
  pub record Passed : Type 0 where
    pub good : bad_shelf shelf used ≡ false
    pub higher : not_higher job edition (records (take used shelf)) ≡ false
    pub room : ltb (length shelf) needed ≡ false

  pub put_passed : (put_call shelf used job edition sealed).number ≡ 0 → Passed
  unfolding put_call
  put_passed z =
      by_test (bad_shelf shelf used) (λ e. absurd (omega (arith, rw e at z)))
      (λ e.
      by_test (not_higher job edition (records (take used shelf))) (λ f. absurd (omega (arith, rw (e, f) at z)))
      (λ f.
      by_test (ltb (length shelf) needed) (λ g. absurd (omega (arith, rw (e, f, g) at z)))
      (λ g. record { good = e; higher = f; room = g })))

  -- refused for room exactly where the records current after the put do not fit in the buffer
  module _ (good : bad_shelf shelf used ≡ false) (higher : not_higher job edition (records (take used shelf)) ≡ false) where
    pub refused_for_room : (put_call shelf used job edition sealed).number ≡ 21 → length shelf < needed
    unfolding put_call
    refused_for_room z =
        by_test (ltb (length shelf) needed) (ltb-true (length shelf) needed) (λ g. absurd (omega (arith, rw (good, higher, g) at z)))

    pub no_room-refused : length shelf < needed → (put_call shelf used job edition sealed).number ≡ 21
    unfolding put_call
    no_room-refused h = rw (good, higher, lt-ltb (length shelf) needed h)

-- a put that is done, of a job, an edition and bytes as the call takes them
module _ (shelf : List ℕ) (used job edition : ℕ) (sealed : List ℕ) (small : AreBytes shelf) (job-fits : job < 2 ^ 32)
    (edition-fits : edition < 2 ^ 16) (sealed-small : AreBytes sealed) (done : (put_call shelf used job edition sealed).number ≡ 0) where
  passed : Passed shelf used job edition sealed
  passed = put_passed shelf used job edition sealed done

  order : InOrder shelf used
  order = in_order shelf used passed.good

  abbrev before : List Record
  before = records (take used shelf)

  abbrev new : Record
  new = new_record job edition sealed

  abbrev final : List Record
  final = fitted (length shelf) (put_in shelf used job edition sealed)

  put_is : put_call shelf used job edition sealed ≡ holding final shelf
  unfolding put_call
  put_is = rw (passed.good, passed.higher, passed.room)

  current_here : current_of job final ≡ new ∷ []
  current_here = current-fitted job (length shelf) (put_in shelf used job edition sealed) ∙ current-new new refl before

  current_there : (other : ℕ) → (other ≡ job → ⊥) → current_of other final ≡ current_of other before
  current_there other d =
      current-fitted other (length shelf) (put_in shelf used job edition sealed) ∙ current-kept new refl before other d

  final_fit : Fit final shelf
  final_fit =
      let fits = ltb-false (length shelf) (needed shelf used job edition sealed) passed.room in
      let l = length-current shelf used order new refl refl in
      let short : length sealed < 2 ^ 32 = omega (arith, order.size) in
      record {
        proper =
            put-proper (length shelf) new before
            (record { job = job-fits; edition = edition-fits; size = short; bytes = sealed-small })
            (records-proper (take used shelf) (below-take 256 used shelf small));
        size = order.size;
        room = fitted-fits (length shelf) (put_in shelf used job edition sealed) fits;
        one = λ other.
            by_test (eqb other job) (λ f. rw (eqb-true other job f, current_here) (omega arith))
            (λ f. rw (current_there other (eqb-false other job f)) (at_most_one before order.single other));
      }

  -- the shelf is in order, so no call refuses it with 19, and the used count is within the buffer, which is as long as it was
  pub put_in_order : let o = put_call shelf used job edition sealed in InOrder o.bytes o.used
  put_in_order = rw put_is (holds_in_order final_fit)

  pub put-length : length (put_call shelf used job edition sealed).bytes ≡ length shelf
  put-length = rw put_is (length_over final_fit)

  -- looking up the job gives exactly the new record
  pub put_look_up : let o = put_call shelf used job edition sealed in looked_up o.bytes o.used job ≡ written new
  unfolding stored
  put_look_up = rw put_is (looks_up final_fit job ∙ ap stored current_here ∙ append-nil (written new))

  -- and looking up another gives what it gave
  pub put-others : (other : ℕ) → (other ≡ job → ⊥)
      → let o = put_call shelf used job edition sealed in looked_up o.bytes o.used other ≡ looked_up shelf used other
  put-others other d =
      rw put_is (looks_up final_fit other ∙ ap stored (current_there other d) ∙ sym (look_up shelf used small order other))
