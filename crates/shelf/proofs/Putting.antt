-- What a put changes: marking the current record of a job changes one byte of the buffer; where a new record goes, and what it takes
-- to find room for it.
use Rattle.shelf.proofs.Names.{AreBytes, Bool, Found, InOrder, List, None, Record, Some, [], ◌++◌, ◌+◌, ◌-◌, ◌∙◌, ◌∷◌, ◌≡◌, ◌≤◌}
use Rattle.shelf.proofs.Names.{and-false, ap, append_assoc, append-nil, arith, below-take, by_test, bytes_of, collected, cond, current_in, drop}
use Rattle.shelf.proofs.Names.{drop_at, eqb, false, fitted, has_current, heads, is_current_of, label_of, le-leb, leb, leb-true, length}
use Rattle.shelf.proofs.Names.{length-append, length-bytes_of, length-drop, length_label, length-take-le, lt-leb, ltb, ltb-false}
use Rattle.shelf.proofs.Names.{ltb-true, new_record, not, over, over-append, over-behind, place_of, records, refl, returned, room_made, set}
use Rattle.shelf.proofs.Names.{set-append_left, stays, stored, suc-add, supersede, superseded, sym, tailed, take, take_at}
use Rattle.shelf.proofs.Names.{take-append-drop, those, true, two_current, with_new, written, zero-add, ℕ}
use Rattle.shelf.proofs.Reading.{length-written}
use Rattle.shelf.proofs.Walks.{or_left, or_right, alone, two_rest, Standing, current-standing}
use Rattle.shelf.proofs.ReadsProper.{stored-records}

set-behind : (xs ys : List ℕ) (n a : ℕ) → set (xs ++ ys) (length xs + n) a ≡ xs ++ set ys n a
set-behind [] ys n a = rw zero-add
set-behind (x ∷ xs) ys n a = rw suc-add (ap (λ (l : List ℕ). x ∷ l) (set-behind xs ys n a))

-- where there is none, nothing is marked
supersede-none : (job : ℕ) (rs : List Record) → has_current job rs ≡ false → supersede job rs ≡ rs
unfolding has_current supersede
supersede-none job [] e = refl
supersede-none job (r ∷ rs) e =
    rw (or_left (is_current_of job r) _ e, supersede-none job rs (or_right (is_current_of job r) _ e))

length-supersede : (job : ℕ) (rs : List Record) → length (stored (supersede job rs)) ≡ length (stored rs)
unfolding supersede stored
length-supersede job [] = refl
length-supersede job (r ∷ rs) =
    simp (length-append, length-supersede job rs)
    (by_test (is_current_of job r) (λ e. rw (e, length-written (superseded r), length-written r)) (λ e. rw e))

mark_set : (r : Record) (rest : List ℕ) → set (written r ++ rest) 1 0x58 ≡ written (superseded r) ++ rest
unfolding written
mark_set r rest = refl

-- the current record of a job stands before the end, all its head at least, and marking it is one byte
mark-one : (job : ℕ) (rs : List Record) → has_current job rs ≡ true → two_current rs ≡ false
    → (place_of job rs + 12 ≤ length (stored rs)) × (set (stored rs) (place_of job rs + 1) 0x58 ≡ stored (supersede job rs))
unfolding has_current place_of supersede stored
mark-one job [] e f = absurd cc
mark-one job (r ∷ rs) e f =
    by_test (is_current_of job r)
    (λ g.
    rw (g, length-append, supersede-none job rs (alone job r rs f g)) (omega (arith, length-written r), mark_set r (stored rs)))
    (λ g.
    let more = mark-one job rs (rw g at e) (two_rest r rs f) in
    let place : length (written r) + place_of job rs + 1 ≡ length (written r) + (place_of job rs + 1) = omega arith in
    rw (g, length-append) (omega arith, rw (place, set-behind, more.1)))

-- what a walk finds of a job
pub found_at : (shelf : List ℕ) (used : ℕ) → InOrder shelf used → (job : ℕ)
    → let rs = records (take used shelf) in
    current_in job 0 (heads (take used shelf)) ≡ cond (has_current job rs) (Some (Standing job 0 rs)) None
unfolding heads
found_at shelf used o job = current-standing job 0 (records (take used shelf)) o.single

module _ (shelf : List ℕ) (used : ℕ) (small : AreBytes shelf) (o : InOrder shelf used) where
  abbrev rs : List Record
  rs = records (take used shelf)

  -- the used bytes are the records
  pub used-stored : shelf ≡ stored rs ++ drop used shelf
  used-stored =
      sym (take-append-drop used shelf)
      ∙ ap (λ (x : List ℕ). x ++ drop used shelf)
      (sym (stored-records (take used shelf) (below-take 256 used shelf small) (o.fills ∙ sym (length-take-le used shelf o.within))))

  -- what a walk over them finds of a job is what is to be marked
  module _ (job : ℕ) where
    pub marked-over : {f : Found} → Some f ≡ current_in job 0 (heads (take used shelf))
        → (f.start + 12 ≤ used) × (set shelf (f.start + 1) 0x58 ≡ over (stored (supersede job rs)) shelf)
    marked-over {f} e =
        by_test (has_current job rs)
        (λ h.
        let there : Some f ≡ Some (Standing job 0 rs) = e ∙ found_at shelf used o job ∙ rw h in
        let same : f ≡ Standing job 0 rs = cc in
        let place : f.start ≡ place_of job rs = rw (same, zero-add) in
        let m = mark-one job rs h o.single in
        rw place (
          omega (arith, o.fills),
          ap (λ (x : List ℕ). set x (place_of job rs + 1) 0x58) used-stored
              ∙ set-append_left (stored rs) (drop used shelf) (place_of job rs + 1) 0x58 (omega arith)
              ∙ rw (m.1, length-supersede job rs, o.fills),
        ))
        (λ h. let z : Some f ≡ None = e ∙ found_at shelf used o job ∙ rw h in absurd cc)

    pub unmarked-over : None ≡ current_in job 0 (heads (take used shelf)) → shelf ≡ over (stored (supersede job rs)) shelf
    unmarked-over e =
        by_test (has_current job rs) (λ h. let z : None ≡ Some (Standing job 0 rs) = e ∙ found_at shelf used o job ∙ rw h in absurd cc)
        (λ h. used-stored ∙ rw (supersede-none job rs h, o.fills))

pub those-append : (test : Record → Bool) (a b : List Record) → those test (a ++ b) ≡ those test a ++ those test b
unfolding those
those-append test [] b = refl
those-append test (r ∷ a) b = by_test (test r) (λ e. rw (e, those-append test a b)) (λ e. rw e (those-append test a b))

-- of marked records those pass one test that passed another, if each record does
pub those-marked : (p q : Record → Bool) (job : ℕ) → ((r : Record) (a : List Record)
    → let m = cond (is_current_of job r) (superseded r) r in cond (p m) (m ∷ a) a ≡ cond (q r) (r ∷ a) a)
    → (rs : List Record) → those p (supersede job rs) ≡ those q rs
unfolding those supersede
those-marked p q job each [] = refl
those-marked p q job each (r ∷ rs) = rw (those-marked p q job each rs) (each r (those q rs))

-- what stays where a job's new record is coming
those_coming : (job : ℕ) (rs : List Record) → those (stays (Some job)) rs ≡ collected (supersede job rs)
those_coming job rs =
    sym (those-marked (λ r. r.current) (stays (Some job)) job
    (λ r a.
    by_test r.current (λ e. by_test (eqb r.job job) (λ f. rw (e, f)) (λ f. rw (e, f)))
    (λ e. rw (e, and-false (not (eqb r.job job)))))
    rs)

pub stored-new : (new : Record) (a : List Record) → stored (a ++ (new ∷ [])) ≡ stored a ++ written new
unfolding stored
stored-new new [] = append-nil (written new)
stored-new new (r ∷ a) = rw (stored-new new a, append_assoc)

-- records that are collected where they do not fit have room where what is current has
pub fitted-fits : (room : ℕ) (rs : List Record) → length (stored (collected rs)) ≤ room → length (stored (fitted room rs)) ≤ room
unfolding fitted
fitted-fits room rs h = by_test (leb (length (stored rs)) room) (λ e. rw e (leb-true (length (stored rs)) room e)) (λ e. rw e h)

module _ (shelf : List ℕ) (used : ℕ) (o : InOrder shelf used) where
  -- what stands where room is made for a new record of a job with n sealed bytes: where it goes, and the buffer
  abbrev pub Made : ℕ → ℕ → ℕ → List ℕ → Type 0
  Made n job at s =
      let m = stored (room_made (length shelf) n job (records (take used shelf))) in (at ≡ length m) × (s ≡ over m shelf)

  module _ (n job : ℕ) {s : List ℕ} where
    pub made_short : {at : ℕ} → ltb (length shelf) (used + (12 + n)) ≡ true
        → (let m = stored (those (stays (Some job)) (records (take used shelf))) in (at ≡ length m) × (s ≡ over m shelf)) → Made n job at s
    unfolding room_made
    made_short f e = rw (o.fills, f) (rw those_coming at e)

    pub made_long : ltb (length shelf) (used + (12 + n)) ≡ false → s ≡ over (stored (supersede job (records (take used shelf)))) shelf
        → Made n job used s
    unfolding room_made
    made_long f e = rw (o.fills, f) (sym (length-supersede job (records (take used shelf)) ∙ o.fills), e)

  module _ (new : Record) (current : new.current ≡ true) where
    abbrev old : List Record
    old = records (take used shelf)

    abbrev after : List Record
    after = with_new new old

    length-new : (a : List Record) → length (stored (a ++ (new ∷ []))) ≡ length (stored a) + (12 + length new.sealed)
    length-new a = rw (stored-new new a, length-append, length-written)

    collected-new : collected after ≡ collected (supersede new.job old) ++ (new ∷ [])
    unfolding with_new those
    collected-new = those-append (λ r. r.current) (supersede new.job old) (new ∷ []) ∙ rw current

    -- the bytes of the records current after the put
    pub length-current : {kept : ℕ} → kept ≡ length (stored (those (stays (Some new.job)) old))
        → kept + (12 + length new.sealed) ≡ length (stored (collected after))
    length-current e = rw (e, those_coming new.job old, collected-new) (sym (length-new (collected (supersede new.job old))))

    -- the room that is made, whether or not the new record fits behind all the others
    abbrev made : List ℕ
    made = stored (room_made (length shelf) (length new.sealed) new.job old)

    stored_made : stored (fitted (length shelf) after) ≡ made ++ written new
    unfolding fitted room_made with_new
    stored_made =
        let needed = length (stored old) + (12 + length new.sealed) in
        let all = length (stored after) in
        let n : all ≡ needed = length-new (supersede new.job old) ∙ rw (length-supersede new.job old) in
        let room = length shelf in
        by_test (ltb room needed)
        (λ f. rw (f, lt-leb all room (omega (arith, ltb-true room needed f))) (ap stored collected-new ∙ stored-new new _))
        (λ f. rw (f, le-leb all room (omega (arith, ltb-false room needed f))) (stored-new new _))

    module _ {at : ℕ} {s : List ℕ} (m : Made (length new.sealed) new.job at s) where
      pub made_used : at + (12 + length new.sealed) ≡ length (stored (fitted (length shelf) after))
      made_used = rw (stored_made, length-append, length-written, m.0)

      -- where the records current after the put fit, the new one finds room
      pub made_room : ltb (length shelf) (length (stored (collected after))) ≡ false
          → (at + (12 + length new.sealed) ≤ length s) × (length s ≡ length shelf) × (length shelf ≤ 65536)
      made_room f =
          let fits = fitted-fits (length shelf) after (ltb-false (length shelf) _ f) in
          let u = made_used in
          let l : length s ≡ length shelf = rw (m.1, length-append, length-drop) (omega (arith, m.0)) in
          (omega arith, l, o.size)

      pub made_bytes : {t : List ℕ} → t ≡ over (written new) (tailed at s)
          → returned at s t ≡ over (stored (fitted (length shelf) after)) shelf
      made_bytes e =
          over-behind made (written new) shelf s _ at (sym m.0) m.1 e ∙ ap (λ (x : List ℕ). over x shelf) (sym stored_made)

-- p was copied to the front of an output, and then q behind it
copied_behind : (p q o b : List ℕ) (n : ℕ) → length p ≡ n → b ≡ q
    → take n (p ++ drop n o) ++ (b ++ drop (n + length q - n) (drop n (p ++ drop n o))) ≡ over (p ++ q) o
copied_behind p q o b n l e =
    let m : n + length q - n ≡ length q = omega arith in
    rw (m, e, take_at p (drop n o) n l, drop_at p (drop n o) n l, ← l) (sym (over-append p q o))

-- head and sealed bytes written one behind the other
pub record_written : (job edition : ℕ) (sealed head o t : List ℕ)
    → head ≡ 0x52 ∷ 0x44 ∷ (label_of job edition ++ bytes_of 4 (length sealed)) → t ≡ sealed
    → take 12 (head ++ drop 12 o) ++ (t ++ drop (12 + length sealed - 12) (drop 12 (head ++ drop 12 o)))
    ≡ over (written (new_record job edition sealed)) o
unfolding written
record_written job edition sealed head o t e f =
    let n = length-append (label_of job edition) (bytes_of 4 (length sealed)) in
    let long : length head ≡ 12 = ap length e ∙ omega (arith, n, length_label job edition, length-bytes_of 4 (length sealed)) in
    let whole : head ++ sealed ≡ written (new_record job edition sealed) = rw (e, append_assoc) in
    copied_behind head sealed o t 12 long f ∙ ap (λ (x : List ℕ). over x o) whole
