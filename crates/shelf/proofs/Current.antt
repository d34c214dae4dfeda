-- The current records of a job, after each change to a list of records. No job has two exactly where each has at most one.
use Rattle.shelf.proofs.Names.{Bool, List, Record, [], ◌&&◌, ◌∙◌, ◌∷◌, ◌≡◌, ◌≤◌, and_left, and_right, append-nil, arith, by_test}
use Rattle.shelf.proofs.Names.{collected, current_of, eq-eqb, eqb-true, false, fitted, has_current, is_current_of, leb, length}
use Rattle.shelf.proofs.Names.{ne_eqb, refl, stored, supersede, sym, those, true, two_current, with_new, ℕ}
use Rattle.shelf.proofs.Walks.{none-current, alone, two_rest, those-length}
use Rattle.shelf.proofs.Putting.{those-append, those-marked}

pub current-none : (job : ℕ) (rs : List Record) → length (current_of job rs) ≤ 0 → has_current job rs ≡ false
unfolding has_current those
current-none job [] h = refl
current-none job (r ∷ rs) h =
    by_test (is_current_of job r) (λ e. absurd (omega (arith, rw e at h))) (λ e. rw e (current-none job rs (rw e at h)))

pub at_most_one : (rs : List Record) → two_current rs ≡ false → (job : ℕ) → length (current_of job rs) ≤ 1
unfolding those
at_most_one [] e job = omega arith
at_most_one (r ∷ rs) e job =
    by_test (is_current_of job r) (λ f. rw (f, none-current job rs (alone job r rs e f)) (omega arith))
    (λ f. rw f (at_most_one rs (two_rest r rs e) job))

pub own_current : (r : Record) → r.current ≡ true → is_current_of r.job r ≡ true
own_current r e = rw (e, eq-eqb r.job r.job refl)

pub no_two : (rs : List Record) → ((job : ℕ) → length (current_of job rs) ≤ 1) → two_current rs ≡ false
unfolding two_current those
no_two [] h = refl
no_two (r ∷ rs) h =
    let first : r.current && has_current r.job rs ≡ false =
    by_test r.current
    (λ e. rw e (current-none r.job rs (omega (arith, rw (own_current r e) at (h r.job))))) (λ e. rw e) in
    rw first (no_two rs (λ job. by_test (is_current_of job r) (λ e. omega (arith, rw e at (h job))) (λ e. rw e at (h job))))

-- collection loses no record that passes a test for current ones
those-collected : (test : Record → Bool) → ((r : Record) → r.current ≡ false → test r ≡ false) → (rs : List Record)
    → those test (collected rs) ≡ those test rs
unfolding those
those-collected test old [] = refl
those-collected test old (r ∷ rs) =
    let more = those-collected test old rs in
    by_test r.current (λ e. rw (e, more)) (λ e. rw (old r e, e) more)

pub current-collected : (job : ℕ) (rs : List Record) → current_of job (collected rs) ≡ current_of job rs
current-collected job = those-collected (is_current_of job) (λ r e. rw e)

-- and what was collected once is collected
pub collected_again : (rs : List Record) → collected (collected rs) ≡ collected rs
collected_again = those-collected (λ r. r.current) (λ r e. e)

pub collected-length : (rs : List Record) → length (stored (collected rs)) ≤ length (stored rs)
collected-length = those-length (λ r. r.current)

-- marking: of the job there is none left, and of the others nothing is changed
current_gone : (job : ℕ) (rs : List Record) → current_of job (supersede job rs) ≡ []
unfolding those supersede
current_gone job [] = refl
current_gone job (r ∷ rs) =
    let none = current_gone job rs in
    by_test (is_current_of job r) (λ e. rw e none) (λ e. rw (e, e) none)

current-others : (job other : ℕ) (rs : List Record) → (other ≡ job → ⊥) → current_of other (supersede job rs) ≡ current_of other rs
current-others job other rs d =
    those-marked (is_current_of other) (is_current_of other) job
    (λ r a.
    by_test (is_current_of job r)
    (λ e.
    let same : r.job ≡ job = eqb-true r.job job (and_right r.current _ e) in
    rw (e, and_left r.current _ e, ne_eqb r.job other (λ f. d (sym f ∙ same))))
    (λ e. rw e))
    rs

pub current-fitted : (job room : ℕ) (rs : List Record) → current_of job (fitted room rs) ≡ current_of job rs
unfolding fitted
current-fitted job room rs = by_test (leb (length (stored rs)) room) (λ e. rw e) (λ e. rw e (current-collected job rs))

module _ (new : Record) (current : new.current ≡ true) (rs : List Record) where
  -- after a put, a job's current record is the new one
  pub current-new : current_of new.job (with_new new rs) ≡ new ∷ []
  unfolding with_new those
  current-new =
      those-append (is_current_of new.job) (supersede new.job rs) (new ∷ [])
      ∙ rw (current_gone new.job rs, own_current new current)

  -- and every other job's is what it was
  pub current-kept : (other : ℕ) → (other ≡ new.job → ⊥) → current_of other (with_new new rs) ≡ current_of other rs
  unfolding with_new those
  current-kept other d =
      those-append (is_current_of other) (supersede new.job rs) (new ∷ [])
      ∙ rw (current-others new.job other rs d, current, ne_eqb new.job other (λ e. d (sym e))) (append-nil (current_of other rs))
