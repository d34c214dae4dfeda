-- What is known of a record that stands whole: its parts stand whole one behind the other, they make up its size, and what is read of it is
-- told by the bytes of its fields alone.
use Rattle.journal.proofs.Names.{Entry, List, Stands, [], ◌+◌, ◌-◌, ◌∙◌, ◌∷◌, ◌≡◌, ◌≤◌, after_record, and_left, and_right, ap}
use Rattle.journal.proofs.Names.{arith, behind, by_test, direction_of, drop, drop_at, false, from_data, from_iv, from_label, from_output}
use Rattle.journal.proofs.Names.{from_room, front, get_or, get_or-take, le-leb, leb, leb-true, length, length-append, length-drop}
use Rattle.journal.proofs.Names.{length-take-le, lit<, marked, number_of, part_at, size_at, starts_part, starts_record, sym}
use Rattle.journal.proofs.Names.{take, take-add, take_at, true, word_at, ℕ}
use Rattle.journal.proofs.Fields.{Field, fixed, counted, Fit, fields, joined, past, sizes_are, joined_fields, row_in}

-- a part
module _ (b : List ℕ) where
  pub part_starts : 4 + word_at b 0 ≤ length b → starts_part b ≡ true
  unfolding starts_part
  part_starts h = rw (le-leb 4 (length b) (omega arith), le-leb (word_at b 0) (length b - 4) (omega arith))

  pub part-fits : starts_part b ≡ true → 4 + word_at b 0 ≤ length b
  unfolding starts_part
  part-fits e =
      omega (arith, leb-true 4 (length b) (and_left _ _ e), leb-true (word_at b 0) (length b - 4) (and_right (leb 4 (length b)) _ e))

  pub length_part : starts_part b ≡ true → length (part_at b) ≡ word_at b 0
  unfolding part_at
  length_part e = length-take-le (word_at b 0) (drop 4 b) (omega (arith, part-fits e, length-drop 4 b))

  part-of-field : 4 + word_at b 0 ≤ length b → drop 4 (take (4 + word_at b 0) b) ≡ part_at b
  unfolding part_at
  part-of-field h = rw take-add (drop_at (take 4 b) (take (word_at b 0) (drop 4 b)) 4 (length-take-le 4 b (omega arith)))

-- the fields of a record
abbrev pub row_of : List Field
row_of = fixed 6 ∷ counted ∷ counted ∷ counted ∷ fixed 5 ∷ counted ∷ []

-- what they say
abbrev pub read : List (List ℕ) → Entry
read ps =
    let h = get_or ps 0 [] in
    let m = get_or ps 4 [] in
    record {
      direction = direction_of (get_or h 2 0);
      mode = get_or h 3 0;
      key = number_of (get_or h 4 0 ∷ get_or h 5 0 ∷ []);
      label = drop 4 (get_or ps 1 []);
      «data» = drop 4 (get_or ps 2 []);
      iv = drop 4 (get_or ps 3 []);
      room = word_at m 0;
      number = get_or m 4 0;
      output = drop 4 (get_or ps 5 []);
    }

module _ (b : List ℕ) where
  pub stands : starts_record b ≡ true → Stands b
  unfolding starts_record
  stands e = search (and_left, and_right, leb-true)

  pub starts : Stands b → starts_record b ≡ true
  unfolding starts_record
  starts s =
      rw (le-leb 6 (length b) s.long, s.mark, s.label, s.«data», s.iv, le-leb 5 (length (from_room b)) s.middle, s.output)

  fits : Stands b → Fit row_of b
  unfolding behind
  fits s = search part-fits

  pub fit_stands : marked b ≡ true → Fit row_of b → Stands b
  unfolding behind
  fit_stands m f = search part_starts

  mark-read : marked (take 6 b) ≡ marked b
  unfolding marked
  mark-read = simp (get_or-take, lit<, tt {0})

  pub front_read : Fit row_of b → read (fields row_of b) ≡ front b
  unfolding front behind
  front_read (a, (l, (d, (i, (m, (o, z)))))) =
      rw (get_or-take 6 b 2 0 (lit< tt)) (simp (get_or-take, part-of-field, lit<, tt {0}))

  module _ (s : Stands b) where
    pub size_is : size_at b ≡ length (joined (fields row_of b))
    unfolding size_at behind
    size_is = rw (starts s) (omega (arith, length-append (joined (fields row_of b)) (past row_of b), ap length (joined_fields row_of b)))

    -- its bytes but for the parts are 27
    pub size-sum : length (part_at (from_label b)) + length (part_at (from_data b)) + length (part_at (from_iv b)) + length
        (part_at (from_output b)) + 27 ≡ size_at b
    unfolding behind
    size-sum = omega (arith, length_part, size_is, sizes_are row_of b (fits s))

    pub size-rest : size_at b + length (after_record b) ≡ length b
    unfolding behind
    size-rest = omega (arith, size_is, length-append (joined (fields row_of b)) (past row_of b), ap length (joined_fields row_of b))

    pub size-within : size_at b ≤ length b
    size-within = omega (arith, size-rest)

    pub data-within : 27 + length (front b).«data» ≤ size_at b
    unfolding front
    data-within = omega (arith, size-sum)

    pub behind-size : drop (size_at b) b ≡ after_record b
    unfolding behind
    behind-size =
        ap (drop (size_at b)) (sym (joined_fields row_of b)) ∙ drop_at (joined (fields row_of b)) (past row_of b) (size_at b) (sym size_is)

    front_bytes : take (size_at b) b ≡ joined (fields row_of b)
    front_bytes =
        ap (take (size_at b)) (sym (joined_fields row_of b)) ∙ take_at (joined (fields row_of b)) (past row_of b) (size_at b) (sym size_is)

  pub not-standing : (Stands b → ⊥) → starts_record b ≡ false
  not-standing z = by_test (starts_record b) (λ f. absurd (z (stands f))) (λ f. f)

-- Bytes that start with those of a record start with the record, whatever is behind it.
module _ (b t : List ℕ) (s : Stands b) (h : take (size_at b) t ≡ take (size_at b) b) where
  again : Fit row_of t × (fields row_of t ≡ fields row_of b)
  again = row_in row_of b t (fits b s) (rw (size_is b s) at (h ∙ front_bytes b s))

  stands_in : Stands t
  stands_in =
      let f : take 6 t ≡ take 6 b = ap (λ (ps : List (List ℕ)). get_or ps 0 []) again.1 in
      fit_stands t (sym (mark-read t) ∙ ap marked f ∙ mark-read b ∙ s.mark) again.0

  pub starts_in : starts_record t ≡ true
  starts_in = starts t stands_in

  pub front_in : front t ≡ front b
  front_in = sym (front_read t again.0) ∙ ap {B = Entry} read again.1 ∙ front_read b (fits b s)

  pub size_in : size_at t ≡ size_at b
  size_in = size_is t stands_in ∙ ap (λ (ps : List (List ℕ)). length (joined ps)) again.1 ∙ sym (size_is b s)
