-- A shelf, as a host is handed it: demand 1 of its calls, which number each answers; and that a rough is not shown for its final.
use Rattle.demands.specs.Names as N
use N.{Bool, ◌&&◌, false, true, List, [], ◌∷◌, append-nil, inr, ◌∙◌, ◌≡◌, ap, refl, sym, ◌<◌, ◌^◌, ◌≤◌, ℕ, arith, eqb, leb, ltb, drop}
use N.{length, length-append, length-drop, take, drop_at, eq-eqb, eqb-false, eqb-true, leb-false, leb-true, ltb-false, AreBytes, Decrypt}
use N.{label_of, ShelfOutcome as Outcome, holding, looked_up, new_record, nowhere, put_in, shelf_refuse as refuse, collect_call, find_call}
use N.{put_call, AllProper, Record, records, stored_shelf as stored, written_shelf as written, collected, current_of, is_current_of}
use N.{bad_shelf, fitted, has_current, not_higher, those, two_current, InOrder, host_mode_call, LuossavinKey}
use Rattle.block.proofs.Entries.{below-take}
use Rattle.block.proofs.Same.{by_test, and_right}
use Rattle.shelf.proofs.Reading.{written-label, written-sealed}
use Rattle.shelf.proofs.Walks.{or_left, or_right, none-current, alone, two_rest}
use Rattle.shelf.proofs.Sound.{in_order}
use Rattle.shelf.proofs.Current.{collected-length}
use Rattle.shelf.proofs.ReadsProper.{records-proper}
use Rattle.shelf.proofs.FoundPart.{stored-part, look_up}
use Rattle.shelf.proofs.AfterPut.{put_passed, put_look_up}
use Rattle.demands.specs.Answered.{one_of}
use Rattle.demands.specs.OneBlockRefused.{MovesZero}
use Rattle.demands.specs.WhichNumber.{only, first_of}
use Rattle.demands.specs.OnTheShelf.{ShelfAnswered, PlaceAnswered, put_numbers, collect_numbers, put_rows, collect_rows, find_rows}
use Rattle.demands.specs.OnTheShelf.{label_in, file_in, OneEditionOpens, NoRoughShown, OfEach}
use Rattle.demands.proofs.OneBlockRefused.{other_edition-refused}
use mathlib.Core.Bool.{false≢true}

-- Which number: putting says what the first condition says that holds.
pub exported_put-number : (shelf : List ℕ) (used job edition : ℕ) (sealed : List ℕ)
    → only (put_call shelf used job edition sealed).number ≡ first_of (put_rows shelf used job edition sealed)
unfolding put_call
exported_put-number shelf used job edition sealed =
    let long = ltb (length shelf) (length (stored (collected (put_in shelf used job edition sealed)))) in
    by_test (bad_shelf shelf used) (λ e. rw e) (λ e.
    by_test (not_higher job edition (records (take used shelf))) (λ f. rw (e, f)) (λ f.
    by_test long (λ g. rw (e, f, g)) (λ g. rw (e, f, g))))

pub exported_collect-number : (shelf : List ℕ) (used : ℕ) → only (collect_call shelf used).number ≡ first_of (collect_rows shelf used)
unfolding collect_call
exported_collect-number shelf used = by_test (bad_shelf shelf used) (λ e. rw e) (λ e. rw e)

pub exported_find-number : (shelf : List ℕ) (used job : ℕ) → only (find_call shelf used job).number ≡ first_of (find_rows shelf used job)
unfolding find_call
exported_find-number shelf used job =
    let has = has_current job (records (take used shelf)) in
    by_test (bad_shelf shelf used) (λ e. rw e) (λ e. by_test has (λ f. rw (e, f)) (λ f. rw (e, f)))

-- Demand 1.
module _ (numbers : List ℕ) (shelf : List ℕ) (used : ℕ) where
  refuses : (t : Bool) (n : ℕ) (x : Outcome) → 0 < n → one_of n numbers ≡ true → (t ≡ false → ShelfAnswered numbers shelf used x)
      → ShelfAnswered numbers shelf used (refuse t n shelf used x)
  refuses true n x some within next =
      record { numbered = within; refused = λ _. (refl, refl); fits = λ e. absurd (omega arith); past = refl; kept = refl }
  refuses false n x some within next = next refl

  holds : (rs : List Record) → one_of 0 numbers ≡ true → length (stored rs) ≤ length shelf
      → ShelfAnswered numbers shelf used (holding rs shelf)
  holds rs within h =
      record {
        numbered = within;
        refused = λ some. absurd (some refl);
        fits = λ _. h;
        past = drop_at (stored rs) (drop (length (stored rs)) shelf) (length (stored rs)) refl;
        kept = rw (length-append, length-drop) (omega arith);
      }

pub exported_put-answers : (shelf : List ℕ) (used job edition : ℕ) (sealed : List ℕ)
    → ShelfAnswered put_numbers shelf used (put_call shelf used job edition sealed)
unfolding put_call fitted
exported_put-answers shelf used job edition sealed =
    let new = put_in shelf used job edition sealed in
    refuses put_numbers shelf used (bad_shelf shelf used) 19 _ (omega arith) refl (λ _.
    refuses put_numbers shelf used (not_higher job edition (records (take used shelf))) 20 _ (omega arith) refl (λ _.
    refuses put_numbers shelf used (ltb (length shelf) (length (stored (collected new)))) 21 _ (omega arith) refl (λ e.
    holds put_numbers shelf used (fitted (length shelf) new) refl
    (by_test (leb (length (stored new)) (length shelf)) (λ f. rw f (leb-true _ _ f)) (λ f. rw f (ltb-false _ _ e))))))

pub exported_collect-answers : (shelf : List ℕ) (used : ℕ) → ShelfAnswered collect_numbers shelf used (collect_call shelf used)
unfolding collect_call
exported_collect-answers shelf used =
    refuses collect_numbers shelf used (bad_shelf shelf used) 19 _ (omega arith) refl (λ e.
    let order = in_order shelf used e in
    let rs = records (take used shelf) in
    holds collect_numbers shelf used (collected rs) refl (omega (arith, collected-length rs)))

pub exported_find-answers : (shelf : List ℕ) (used job : ℕ) → PlaceAnswered shelf used (find_call shelf used job)
unfolding find_call
exported_find-answers shelf used job =
    by_test (bad_shelf shelf used) (λ e. rw e (none 19 (omega arith) refl)) (λ e.
    by_test (has_current job (records (take used shelf)))
    (λ f.
    let order = in_order shelf used e in
    let inside = (stored-part job (records (take used shelf)) order.single).0 in
    rw (e, f)
    (record { numbered = refl; refused = λ some. absurd (some refl); inside = λ _. (omega arith, order.within) }))
    (λ f. rw (e, f) (none 22 (omega arith) refl)))
  where
    none : (n : ℕ) → 0 < n → one_of n (0 ∷ 19 ∷ 22 ∷ []) ≡ true → PlaceAnswered shelf used (nowhere n)
    none n some within = record { numbered = within; refused = λ _. (refl, refl); inside = λ e. absurd (omega arith) }

-- After a put that is done, looking up the job gives the new record: its label is that of the job and the edition, and its file the one
-- put in.
pub put_is_found : (shelf : List ℕ) (used job edition : ℕ) (sealed : List ℕ) → AreBytes shelf → job < 2 ^ 32 → edition < 2 ^ 16
    → AreBytes sealed
    → (put_call shelf used job edition sealed).number ≡ 0
    → let x = put_call shelf used job edition sealed in
    let part = looked_up x.bytes x.used job in
    (label_in part ≡ label_of job edition) × (file_in part ≡ sealed)
put_is_found shelf used job edition sealed small job-fits edition-fits sealed-small done =
    let new = new_record job edition sealed in
    let found = put_look_up shelf used job edition sealed small job-fits edition-fits sealed-small done in
    (ap label_in found ∙ written-label new, ap file_in found ∙ written-sealed new)

-- the one current record of a job
abbrev TheCurrent : ℕ → List Record → Type 0
TheCurrent job rs = (r : Record) × (current_of job rs ≡ r ∷ []) × (r.job ≡ job) × (r.edition < 2 ^ 16)

the_current : (job : ℕ) (rs : List Record) → AllProper rs → has_current job rs ≡ true → two_current rs ≡ false → TheCurrent job rs
unfolding has_current those
the_current job [] p h f = absurd (false≢true h)
the_current job (r ∷ rs) (p, ps) h f =
    by_test (is_current_of job r)
    (λ e. (r, rw (e, none-current job rs (alone job r rs f e)), eqb-true r.job job (and_right r.current _ e), p.edition))
    (λ e. let (m, one, its-job, fits) = the_current job rs ps (rw e at h) (two_rest r rs f) in (m, rw e one, its-job, fits))

-- what a look-up that found one tells
found-current : (shelf : List ℕ) (used job : ℕ) → (find_call shelf used job).number ≡ 0 → AreBytes shelf
    → InOrder shelf used × TheCurrent job (records (take used shelf))
unfolding find_call
found-current shelf used job found small =
    let rs = records (take used shelf) in
    by_test (bad_shelf shelf used) (λ e. absurd (eqb-false 19 0 refl (rw e at found))) (λ e.
    by_test (has_current job rs) (λ f.
    let order = in_order shelf used e in
    (order, the_current job rs (records-proper (take used shelf) (below-take 256 used shelf small)) f order.single))
    (λ f. absurd (eqb-false 22 0 refl (rw (e, f) at found))))

-- Under a key that does not encrypt the all-zero block to itself, the current record of a job, where it opens under its own label, is
-- refused as 4 under the label of every other edition.
pub current-opens-alone : (shelf : List ℕ) (used job : ℕ) → AreBytes shelf → (find_call shelf used job).number ≡ 0
    → (k : LuossavinKey) → MovesZero k.round_keys → job < 2 ^ 32 → (iv o : List ℕ)
    → OneEditionOpens (host_mode_call Decrypt 4 k) job (looked_up shelf used job) iv o
unfolding stored
current-opens-alone shelf used job small found k moves job-fits iv o =
    let (order, (r, one, its-job, fits)) = found-current shelf used job found small in
    let part : looked_up shelf used job ≡ written r = look_up shelf used small order job ∙ ap stored one ∙ append-nil (written r) in
    let label : label_in (looked_up shelf used job) ≡ label_of job r.edition = ap label_in part ∙ written-label r ∙ rw its-job in
    record {
      edition = r.edition;
      label = label;
      alone = λ opens e below other.
          other_edition-refused k moves job job r.edition e _ iv o o job-fits job-fits fits below (inr (λ same. other (sym same))) refl
          (rw label at opens);
    }

-- every edition of the job on the shelf is lower than one that is not refused as not higher
module _ (k : LuossavinKey) (moves : MovesZero k.round_keys) (job e : ℕ) (job-fits : job < 2 ^ 32) (fits : e < 2 ^ 16)
    (file iv o : List ℕ) where
  none_shown : (rs : List Record) → not_higher job e rs ≡ false → OfEach (NoRoughShown (host_mode_call Decrypt 4 k) job e file iv o) job rs
  unfolding not_higher
  none_shown [] f = tt
  none_shown (r ∷ rs) f =
      let here = eqb r.job job && leb e r.edition in
      let other = other_edition-refused k moves job job in (
        λ same.
            let h = leb-false e r.edition (rw (eq-eqb r.job job same) at (or_left here (not_higher job e rs) f)) in
            let below : r.edition < 2 ^ 16 = omega arith in
            record {
              higher = h;
              new-under_old = other e r.edition file iv o o job-fits job-fits fits below (inr (λ z. omega arith)) refl;
              old_under-new = other r.edition e r.sealed iv o o job-fits job-fits below fits (inr (λ z. omega arith)) refl;
            },
        none_shown rs (or_right here (not_higher job e rs) f),
      )

  -- No rough is shown for its final. After a put that is done, under a key that does not encrypt the all-zero block to itself, the file put
  -- in does not open under the label of any edition of the job that was on the shelf, and none of their files opens under the new one's.
  pub no_rough_shown : (shelf : List ℕ) (used : ℕ) → (put_call shelf used job e file).number ≡ 0
      → OfEach (NoRoughShown (host_mode_call Decrypt 4 k) job e file iv o) job (records (take used shelf))
  no_rough_shown shelf used done = none_shown (records (take used shelf)) (put_passed shelf used job e file done).higher
