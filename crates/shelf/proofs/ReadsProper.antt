-- What is read of bytes is proper, and so is what putting and collecting make of it; reading and writing are each other's inverse.
use Rattle.shelf.proofs.Names.{AllProper, AreBytes, Bool, Head, List, None, Proper, Record, Some, [], ◌++◌, ◌+◌, ◌-◌, ◌<◌, ◌∙◌, ◌∷◌, ◌≡◌, ◌≤◌}
use Rattle.shelf.proofs.Names.{and_left, and_right, ap, arith, below_at, below-drop, below-take, by_test, bytes_of, bytes_of-number_of}
use Rattle.shelf.proofs.Names.{drop, drop-append_seam, drop-drop, eqb, eqb-true, fitted, front, get_or, head_at, heads, is_current_of, label_of}
use Rattle.shelf.proofs.Names.{le-leb, leb, length, length-append, length-drop, length-take, length-take-le, lit<, mark_of, marked}
use Rattle.shelf.proofs.Names.{mod-eq_of_lt, number_of-bytes_of, number_of-lt, records, refl, size_at, starts_record, stored, suc}
use Rattle.shelf.proofs.Names.{supersede, sym, take, take-add, take-length, take-nil, take-take, those, true, with_new, word_at}
use Rattle.shelf.proofs.Names.{written, zero, ℕ}
use lib.Seq.{take-append_seam}
use Rattle.shelf.proofs.Reading.{length-sealed, records-none, records-one, by_records, length-written, starts_within, size_starts}
use Rattle.shelf.proofs.Reading.{records-empty, no_head, no_heads, one_head, head-size, first_head}

module _ (b : List ℕ) (small : AreBytes b) where
  abbrev four : ℕ → List ℕ
  four i = get_or b i 0 ∷ get_or b (i + 1) 0 ∷ get_or b (i + 2) 0 ∷ get_or b (i + 3) 0 ∷ []

  byte_at : (i : ℕ) → get_or b i 0 < 256
  byte_at = below_at 256 b (lit< tt) small

  four_bytes : (i : ℕ) → AreBytes (four i)
  four_bytes i = (byte_at i, (byte_at (i + 1), (byte_at (i + 2), (byte_at (i + 3), tt))))

  front-proper : starts_record b ≡ true → Proper (front b)
  unfolding front
  front-proper f =
      record {
        job = number_of-lt (four 2) (four_bytes 2);
        edition = number_of-lt (get_or b 6 0 ∷ get_or b 7 0 ∷ []) (byte_at 6, (byte_at 7, tt));
        size = rw (length-sealed b f) (number_of-lt (four 8) (four_bytes 8));
        bytes = below-take 256 (word_at b 8) (drop 12 b) (below-drop 256 12 b small);
      }

pub records-proper : (b : List ℕ) → AreBytes b → AllProper (records b)
records-proper =
    by_records (λ b. AreBytes b → AllProper (records b)) (λ b f small. rw (records-none b f) tt)
    (λ b f more small. rw (records-one b f) (front-proper b small f, more (below-drop 256 (size_at b) b small)))

pub those-proper : (test : Record → Bool) (rs : List Record) → AllProper rs → AllProper (those test rs)
unfolding those
those-proper test [] h = tt
those-proper test (r ∷ rs) h =
    by_test (test r) (λ e. rw e (h.0, those-proper test rs h.1)) (λ e. rw e (those-proper test rs h.1))

supersede-proper : (job : ℕ) (rs : List Record) → AllProper rs → AllProper (supersede job rs)
unfolding supersede
supersede-proper job [] h = tt
supersede-proper job (r ∷ rs) h =
    let q = h.0 in
    let rest = supersede-proper job rs h.1 in
    by_test (is_current_of job r)
    (λ e. rw e (record { job = q.job; edition = q.edition; size = q.size; bytes = q.bytes }, rest)) (λ e. rw e (q, rest))

pub more_proper : (rs : List Record) {r : Record} → AllProper rs → Proper r → AllProper (rs ++ (r ∷ []))
more_proper [] h p = (p, tt)
more_proper (x ∷ rs) h p = (h.0, more_proper rs h.1 p)

pub put-proper : (room : ℕ) (new : Record) (rs : List Record) → Proper new → AllProper rs → AllProper (fitted room (with_new new rs))
unfolding fitted with_new
put-proper room new rs p h =
    let all = more_proper (supersede new.job rs) (supersede-proper new.job rs h) p in
    by_test (leb (length (stored (with_new new rs))) room) (λ e. rw e all) (λ e. rw e (those-proper (λ r. r.current) _ all))

-- the first n entries, each by its place
listed : ℕ → (ℕ → ℕ) → List ℕ
listed zero f = []
listed (suc n) f = f 0 ∷ listed n (λ i. f (suc i))

listed_take : (n : ℕ) (b : List ℕ) → n ≤ length b → listed n (λ i. get_or b i 0) ≡ take n b
unfolding listed
listed_take zero b h = refl
listed_take (suc n) [] h = absurd (omega arith)
listed_take (suc n) (x ∷ b) h = ap (λ (l : List ℕ). x ∷ l) (listed_take n b (omega arith))

marked_back : (b : List ℕ) → marked b ≡ true → (0x52 ≡ get_or b 0 0) × (mark_of (eqb (get_or b 1 0) 0x44) ≡ get_or b 1 0)
unfolding marked
marked_back b m = (
  sym (eqb-true (get_or b 0 0) 0x52 (and_left _ _ m)),
  by_test (eqb (get_or b 1 0) 0x44) (λ e. rw e (sym (eqb-true (get_or b 1 0) 0x44 e)))
      (λ e. rw e (sym (eqb-true (get_or b 1 0) 0x58 (rw e at (and_right (eqb (get_or b 0 0) 0x52) _ m))))),
)

-- the record that is read, written, is the bytes that it was read from
front-written : (b : List ℕ) → AreBytes b → starts_record b ≡ true → written (front b) ≡ take (size_at b) b
unfolding written front label_of listed
front-written b small f =
    let w = starts_within b f in
    let m = marked_back b w.1 in
    rw (
      m.1,
      bytes_of-number_of (get_or b 6 0 ∷ get_or b 7 0 ∷ []) (byte_at b small 6, (byte_at b small 7, tt)),
      length-sealed b f,
      bytes_of-number_of (four b small 2) (four_bytes b small 2),
      bytes_of-number_of (four b small 8) (four_bytes b small 8),
      size_starts b f,
      take-add 12 (word_at b 8) b,
      ← listed_take 12 b w.0,
      ← m.0,
    )

-- what reads is what is stored of it
stored-front : (b : List ℕ) → AreBytes b → stored (records b) ≡ take (length (stored (records b))) b
unfolding stored
stored-front =
    by_records (λ b. AreBytes b → stored (records b) ≡ take (length (stored (records b))) b) (λ b f small. rw (records-none b f))
    (λ b f more small.
    let l : length (take (size_at b) b) ≡ size_at b = length-take-le (size_at b) b (omega (arith, starts_within b f, size_starts b f)) in
    rw (records-one b f, front-written b small f, length-append, l, take-add)
    (ap (λ (x : List ℕ). take (size_at b) b ++ x) (more (below-drop 256 (size_at b) b small))))

-- records that fill the bytes are the bytes
pub stored-records : (b : List ℕ) → AreBytes b → length (stored (records b)) ≡ length b → stored (records b) ≡ b
stored-records b small e = stored-front b small ∙ ap (λ (k : ℕ). take k b) e ∙ take-length b

-- a written record is read
module _ (r : Record) (proper : Proper r) (rest : List ℕ) where
  size-field : word_at (written r ++ rest) 8 ≡ length r.sealed
  unfolding written label_of bytes_of
  size-field = number_of-bytes_of 4 (length r.sealed) ∙ mod-eq_of_lt proper.size

  written_starts : starts_record (written r ++ rest) ≡ true
  unfolding written label_of bytes_of marked starts_record
  written_starts =
      let l = length-append (written r) rest in
      let w = length-written r in
      let b = written r ++ rest in
      rw (le-leb 12 (length b) (omega arith), le-leb (word_at b 8) (length b - 12) (omega (arith, size-field)))
      (by_test r.current (λ e. rw e) (λ e. rw e))

  written-size : size_at (written r ++ rest) ≡ length (written r)
  written-size = size_starts (written r ++ rest) written_starts ∙ rw size-field (sym (length-written r))

  written-front : front (written r ++ rest) ≡ r
  unfolding written label_of bytes_of front
  written-front =
      let mark : eqb (mark_of r.current) 0x44 ≡ r.current = by_test r.current (λ e. rw e) (λ e. rw e) in
      let job = number_of-bytes_of 4 r.job ∙ mod-eq_of_lt proper.job in
      let edition = number_of-bytes_of 2 r.edition ∙ mod-eq_of_lt proper.edition in
      rw (mark, job, edition, size-field, take-append_seam r.sealed rest)

  written_reads : records (written r ++ rest) ≡ r ∷ records rest
  written_reads = rw (records-one (written r ++ rest) written_starts, written-front, written-size, drop-append_seam)

-- what was stored is read
pub records-stored : (rs : List Record) → AllProper rs → records (stored rs) ≡ rs
unfolding stored
records-stored [] h = records-empty
records-stored (r ∷ rs) h = rw (written_reads r h.0 (stored rs), records-stored rs h.1)

-- what `&s[at..used]` holds
abbrev pub between : ℕ → ℕ → List ℕ → List ℕ
between at used s = take (used - at) (drop at s)

drop-take : (n k : ℕ) (l : List ℕ) → drop n (take k l) ≡ take (k - n) (drop n l)
drop-take zero k l = let e : k - 0 ≡ k = omega arith in rw e
drop-take (suc n) zero l = let e : 0 - suc n ≡ 0 = omega arith in rw e
drop-take (suc n) (suc k) [] = sym (take-nil (suc k - suc n))
drop-take (suc n) (suc k) (x ∷ l) = let e : suc k - suc n ≡ k - n = omega arith in rw e (drop-take n k l)

-- behind the record at the front of it
between_on : (at used n : ℕ) (s : List ℕ) → drop n (between at used s) ≡ between (at + n) used s
between_on at used n s =
    let e : used - at - n ≡ used - (at + n) = omega arith in
    drop-take n (used - at) (drop at s) ∙ rw (e, drop-drop)

-- the record that a head tells of
abbrev pub entry : List ℕ → Head → Record
entry b h = record { current = h.current; job = h.job; edition = h.edition; sealed = take (h.size - 12) (drop 12 b) }

-- what a walk over the records finds where one stands
pub record Turn (s : List ℕ) (used at : ℕ) (h : Head) : Type 0 where
  -- of bytes, it is proper, and written it is the bytes that it was read from
  pub proper : AreBytes (between at used s) → Proper (entry (between at used s) h)
  pub bytes : AreBytes (between at used s) → written (entry (between at used s) h) ≡ take h.size (drop at s)
  pub long : 12 ≤ h.size
  pub within : at + h.size ≤ used
  pub inside : at + h.size ≤ length s
  pub reads : records (between at used s) ≡ entry (between at used s) h ∷ records (between (at + h.size) used s)
  pub whole : length (written (entry (between at used s) h)) ≡ h.size

module _ (s : List ℕ) (used at : ℕ) where
  -- nothing stands there
  pub at-end : None ≡ head_at (between at used s) → records (between at used s) ≡ []
  at-end e = records-none (between at used s) (no_head (between at used s) e)

  pub on : {h : Head} → Some h ≡ head_at (between at used s) → Turn s used at h
  unfolding front
  on {h} e =
      let b = between at used s in
      let one = one_head b e in
      let f = one.0 in
      let w = starts_within b f in
      let n : h.size ≡ size_at b = rw one.1 (head-size b f) in
      let k : h.size - 12 ≡ word_at b 8 = omega (arith, size_starts b f) in
      let l = simp (length-take, length-drop) at w.2 in
      let same : front b ≡ entry b h = rw k (rw one.1) in
      record {
        proper = λ small. rw (← same) (front-proper b small f);
        bytes = λ small. rw (← same, front-written b small f, ← n) (take-take h.size (used - at) (drop at s) (omega (arith, size_starts b f)));
        long = omega (arith, size_starts b f);
        within = omega (arith, size_starts b f);
        inside = omega (arith, size_starts b f);
        reads = records-one b f ∙ rw (same, ← n, between_on at used h.size s);
        whole = rw (← same) (length-written (front b) ∙ rw (length-sealed b f) (omega (arith, size_starts b f)));
      }

  -- where the heads of what is there begin with one
  pub walk_on : {h : Head} {hs : List Head} → heads (between at used s) ≡ h ∷ hs
      → Turn s used at h × (hs ≡ heads (between (at + h.size) used s))
  walk_on {h} e = let f = first_head (between at used s) e in (on f.0, f.1 ∙ ap heads (between_on at used h.size s))

  -- and where there are none
  pub walk_over : heads (between at used s) ≡ [] → records (between at used s) ≡ []
  walk_over e = no_heads (between at used s) e
