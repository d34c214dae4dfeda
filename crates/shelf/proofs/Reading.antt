-- Records are read one at a time: where one stands whole at the front, it and then what is behind it; otherwise none.
use Rattle.shelf.proofs.Names.{Head, List, None, Record, Some, [], ◌+◌, ◌-◌, ◌<◌, ◌∙◌, ◌∷◌, ◌≡◌, ◌≤◌, and_left, and_right, ap₂, arith}
use Rattle.shelf.proofs.Names.{by_test, bytes_of, drop, false, front, head_at, head_of, heads, label_of, le-leb, leb, leb-true, length}
use Rattle.shelf.proofs.Names.{length-append, length-bytes_of, length-drop, length_label, length-take-le, lt-leb, marked, read_up_to}
use Rattle.shelf.proofs.Names.{records, refl, size_at, starts_record, stored, suc, sym, take, true, word_at, written, zero, ℕ}

pub length-written : (r : Record) → length (written r) ≡ 12 + length r.sealed
unfolding written
length-written r = simp length-append (omega (arith, length-bytes_of 4 (length r.sealed), length_label r.job r.edition))

-- what a record says of its file: the label that it is sealed under, and behind the head the sealed bytes
pub written-label : (r : Record) → take 6 (drop 2 (written r)) ≡ label_of r.job r.edition
unfolding written label_of bytes_of
written-label r = refl

pub written-sealed : (r : Record) → drop 12 (written r) ≡ r.sealed
unfolding written label_of bytes_of
written-sealed r = refl

module _ (b : List ℕ) where
  pub starts_within : starts_record b ≡ true → (12 ≤ length b) × (marked b ≡ true) × (12 + word_at b 8 ≤ length b)
  unfolding starts_record
  starts_within e =
      let long = leb-true 12 (length b) (and_left _ _ e) in
      let rest = and_right (leb 12 (length b)) _ e in
      (long, and_left _ _ rest, omega (arith, leb-true (word_at b 8) (length b - 12) (and_right (marked b) _ rest)))

  too_short : length b < 12 → starts_record b ≡ false
  unfolding starts_record
  too_short h = rw (lt-leb 12 (length b) h)

  pub size_starts : starts_record b ≡ true → size_at b ≡ 12 + word_at b 8
  unfolding size_at
  size_starts e = rw e

  -- what is behind a record is shorter
  behind_less : starts_record b ≡ true → length (drop (size_at b) b) < length b
  behind_less e = omega (arith, starts_within e, size_starts e, length-drop (size_at b) b)

  pub length-sealed : starts_record b ≡ true → length (take (word_at b 8) (drop 12 b)) ≡ word_at b 8
  length-sealed e = length-take-le (word_at b 8) (drop 12 b) (omega (arith, starts_within e, length-drop 12 b))

  read_none : (n : ℕ) → starts_record b ≡ false → read_up_to n b ≡ []
  unfolding read_up_to
  read_none zero e = refl
  read_none (suc n) e = rw e

  pub records-none : starts_record b ≡ false → records b ≡ []
  unfolding records
  records-none e = read_none (length b) e

pub records-empty : records [] ≡ []
unfolding records read_up_to
records-empty = refl

-- as many as there are bytes is enough
enough : (n m : ℕ) (b : List ℕ) → length b ≤ n → length b ≤ m → read_up_to n b ≡ read_up_to m b
unfolding read_up_to
enough zero m b h k = sym (read_none b m (too_short b (omega arith)))
enough (suc n) zero b h k = read_none b (suc n) (too_short b (omega arith))
enough (suc n) (suc m) b h k =
    by_test (starts_record b)
    (λ e. let l = behind_less b e in rw (e, enough n m (drop (size_at b) b) (omega arith) (omega arith))) (λ e. rw e)

pub records-one : (b : List ℕ) → starts_record b ≡ true → records b ≡ front b ∷ records (drop (size_at b) b)
unfolding records read_up_to
records-one b e =
    let l = behind_less b e in
    enough (length b) (suc (length b)) b (omega arith) (omega arith)
    ∙ rw (e, enough (length b) (length (drop (size_at b) b)) (drop (size_at b) b) (omega arith) (omega arith))

-- What holds where no record stands, and goes on from what is behind a record to the record, holds of all bytes.
module _ (P : List ℕ → Type 0) (none : (b : List ℕ) → starts_record b ≡ false → P b)
    (one : (b : List ℕ) → starts_record b ≡ true → P (drop (size_at b) b) → P b) where
  up_to : (n : ℕ) (b : List ℕ) → length b ≤ n → P b
  up_to zero b h = none b (too_short b (omega arith))
  up_to (suc n) b h =
      by_test (starts_record b) (λ f. one b f (up_to n (drop (size_at b) b) (omega (arith, behind_less b f)))) (none b)

  pub by_records : (b : List ℕ) → P b
  by_records b = up_to (length b) b (omega arith)

-- there are no more bytes of records than bytes
pub stored-within : (b : List ℕ) → length (stored (records b)) ≤ length b
unfolding stored front
stored-within =
    by_records (λ b. length (stored (records b)) ≤ length b) (λ b f. rw (records-none b f) (omega arith))
    (λ b f more.
    rw (records-one b f, length-append, length-written, length-sealed b f)
    (omega (arith, starts_within b f, size_starts b f, length-drop (size_at b) b)))

module _ (b : List ℕ) where
  -- the head of a record says how long it is
  pub head-size : starts_record b ≡ true → (head_of (front b)).size ≡ size_at b
  unfolding front
  head-size f = length-written (front b) ∙ rw (length-sealed b f, size_starts b f)

  pub starts_here : {n : ℕ} → 12 ≤ length b → marked b ≡ true → n ≡ word_at b 8 → n ≤ length b - 12 → starts_record b ≡ true
  unfolding starts_record
  starts_here h m e k = rw (le-leb _ _ h, m, ← e, le-leb _ _ k)

  pub no_head : None ≡ head_at b → starts_record b ≡ false
  unfolding head_at
  no_head e = by_test (starts_record b) (λ f. let z : None ≡ Some (head_of (front b)) = rw f at e in absurd cc) (λ f. f)

  pub one_head : {h : Head} → Some h ≡ head_at b → (starts_record b ≡ true) × (h ≡ head_of (front b))
  unfolding head_at
  one_head {h} e =
      by_test (starts_record b) (λ f. let z : Some h ≡ Some (head_of (front b)) = rw f at e in (f, cc))
      (λ f. let z : Some h ≡ None = rw f at e in absurd cc)

  pub heads-none : starts_record b ≡ false → heads b ≡ []
  unfolding heads
  heads-none f = rw (records-none b f)

  pub heads-one : starts_record b ≡ true → heads b ≡ head_of (front b) ∷ heads (drop (size_at b) b)
  unfolding heads
  heads-one f = rw (records-one b f)

  pub no_heads : heads b ≡ [] → records b ≡ []
  no_heads e =
      by_test (starts_record b)
      (λ f. let z : head_of (front b) ∷ heads (drop (size_at b) b) ≡ [] = sym (heads-one f) ∙ e in absurd cc) (λ f. records-none b f)

  -- and the other way round: the first of the heads is that of the record at the front
  pub first_head : {h : Head} {hs : List Head} → heads b ≡ h ∷ hs → (Some h ≡ head_at b) × (hs ≡ heads (drop h.size b))
  unfolding head_at
  first_head {h} {hs} e =
      by_test (starts_record b)
      (λ f.
      let z : head_of (front b) ∷ heads (drop (size_at b) b) ≡ h ∷ hs = sym (heads-one f) ∙ e in
      let same : h ≡ head_of (front b) = cc in
      (rw (f, same), rw (same, head-size f) cc))
      (λ f. let z : [] ≡ h ∷ hs = sym (heads-none f) ∙ e in absurd cc)

  -- it is behind the head, and within b
  pub past_head : {h : Head} → Some h ≡ head_at b → (heads b ≡ h ∷ heads (drop h.size b)) × (h.size ≤ length b)
  past_head {h} e =
      let one = one_head e in
      let n : h.size ≡ size_at b = rw one.1 (head-size one.0) in
      let w = starts_within b one.0 in
      (heads-one one.0 ∙ ap₂ (λ (x : Head) (k : ℕ). x ∷ heads (drop k b)) (sym one.1) (sym n), omega (arith, size_starts b one.0))
