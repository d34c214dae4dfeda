-- Reading and writing a record are each other's inverse.
use Rattle.journal.proofs.Names.{AreBytes, Decrypt, Direction, Encrypt, Entry, List, Proper, ProperPart, Stands, [], ◌++◌, ◌+◌, ◌<◌}
use Rattle.journal.proofs.Names.{◌^◌, ◌∙◌, ◌∷◌, ◌≡◌, ◌≤◌, after_record, and_left, and_right, ap, append-nil, arith, behind, below_at}
use Rattle.journal.proofs.Names.{below-drop, below-take, bytes_of, bytes_of-number_of, direction_byte, direction_of, drop, drop-cons, eqb}
use Rattle.journal.proofs.Names.{eqb-true, from_data, from_iv, from_label, from_output, from_room, front, get_or, head, leb, leb-true}
use Rattle.journal.proofs.Names.{length, lit<, marked, middle, mod-eq_of_lt, number_of-bytes_of, number_of-lt, part, part_at, refl}
use Rattle.journal.proofs.Names.{size_at, starts_part, starts_record, suc, sym, take, take-add, take-suc, true, word_at, written, zero}
use Rattle.journal.proofs.Names.{ℕ}
use Rattle.journal.proofs.Fields.{Is, counted, Fit, row, past, past-below, fields, joined, joined_fields}
use Rattle.journal.proofs.Standing.{part-fits, length_part, row_of, read, starts, front_read, fit_stands, size_is}

-- the fields of an entry
abbrev fields_of : Entry → List (List ℕ)
fields_of e = head e ∷ part e.label ∷ part e.«data» ∷ part e.iv ∷ middle e ∷ part e.output ∷ []

part_is : (p : List ℕ) → ProperPart p → Is counted (part p)
unfolding part bytes_of
part_is p proper c =
    let w : word_at (part p ++ c) 0 ≡ length p = number_of-bytes_of 4 (length p) ∙ mod-eq_of_lt proper.size in
    omega arith

direction_back : (dir : Direction) → (direction_of (direction_byte dir) ≡ dir) × (leb (direction_byte dir) 1 ≡ true)
direction_back Encrypt = (refl, refl)
direction_back Decrypt = (refl, refl)

fields_read : (e : Entry) → Proper e → read (fields_of e) ≡ e
unfolding head middle part bytes_of
fields_read e proper =
    let k = number_of-bytes_of 2 e.key ∙ mod-eq_of_lt proper.key in
    let r = number_of-bytes_of 4 e.room ∙ mod-eq_of_lt proper.room in
    rw ((direction_back e.direction).0, k, r)

written_is : (e : Entry) → written e ≡ joined (fields_of e)
unfolding written
written_is e = simp append-nil

-- A record that was written stands whole, whatever is behind it; it reads as it was; and its size is its bytes.
module _ (e : Entry) (proper : Proper e) (rest : List ℕ) where
  abbrev w : List ℕ
  w = written e ++ rest

  written_row : Fit row_of w × (fields row_of w ≡ fields_of e)
  unfolding head middle bytes_of
  written_row =
      let p = proper in
      rw (written_is e)
      (row row_of (fields_of e) rest
      (λ c. refl, (part_is _ p.label, (part_is _ p.«data», (part_is _ p.iv, (λ c. refl, (part_is _ p.output, tt)))))))

  stands_written : Stands w
  unfolding written head bytes_of marked
  stands_written = fit_stands w (direction_back e.direction).1 written_row.0

  pub written_starts : starts_record w ≡ true
  written_starts = starts w stands_written

  pub written-front : front w ≡ e
  written-front = sym (front_read w written_row.0) ∙ ap {B = Entry} read written_row.1 ∙ fields_read e proper

  pub written-size : size_at w ≡ length (written e)
  written-size =
      size_is w stands_written ∙ ap (λ (ps : List (List ℕ)). length (joined ps)) written_row.1 ∙ ap length (sym (written_is e))

byte_back : (n : ℕ) → n ≤ 1 → direction_byte (direction_of n) ≡ n
byte_back zero h = refl
byte_back (suc zero) h = refl
byte_back (suc (suc n)) h = absurd (omega arith)

-- the n bytes of b from place i on, one by one
abbrev bytes-at : ℕ → List ℕ → ℕ → List ℕ
bytes-at zero b i = []
bytes-at (suc n) b i = get_or b i 0 ∷ bytes-at n b (suc i)

bytes-taken : (n : ℕ) (b : List ℕ) (i : ℕ) → i + n ≤ length b → bytes-at n b i ≡ take n (drop i b)
bytes-taken zero b i h = refl
bytes-taken (suc n) b i h =
    rw (drop-cons b i 0 (omega arith)) (ap (λ (l : List ℕ). get_or b i 0 ∷ l) (bytes-taken n b (suc i) (omega arith)))

-- what is read of bytes is proper, and written again it is what it was read from
module _ (b : List ℕ) (small : AreBytes b) where
  at : (i : ℕ) → get_or b i 0 < 256
  at i = below_at 256 b (lit< tt) small i

  word_fits : word_at b 0 < 2 ^ 32
  word_fits = number_of-lt (bytes-at 4 b 0) (at 0, (at 1, (at 2, (at 3, tt))))

  word_back : 4 ≤ length b → bytes_of 4 (word_at b 0) ≡ take 4 b
  word_back h = bytes_of-number_of (bytes-at 4 b 0) (at 0, (at 1, (at 2, (at 3, tt)))) ∙ bytes-taken 4 b 0 h

  module _ (e : starts_part b ≡ true) where
    part-proper : ProperPart (part_at b)
    unfolding part_at
    part-proper =
        let l = length_part b e in
        record { size = omega (arith, word_fits); bytes = below-take 256 (word_at b 0) (drop 4 b) (below-drop 256 4 b small) }

    part_back : part (part_at b) ≡ take (4 + word_at b 0) b
    unfolding part part_at
    part_back = rw (length_part b e, take-add, word_back (omega (arith, part-fits b e)))

  middle_back : 5 ≤ length b → bytes_of 4 (word_at b 0) ++ (get_or b 4 0 ∷ []) ≡ take 5 b
  middle_back h = rw (word_back (omega arith)) (sym (take-suc b 4 0 h))

  head_back : 6 ≤ length b → marked b ≡ true → head (front b) ≡ take 6 b
  unfolding head front marked
  head_back h m =
      let m₂ = and_right (eqb (get_or b 0 0) 0x54) _ m in
      rw (
        byte_back (get_or b 2 0) (leb-true (get_or b 2 0) 1 (and_right (eqb (get_or b 1 0) 0x52) _ m₂)),
        bytes_of-number_of (get_or b 4 0 ∷ get_or b 5 0 ∷ []) (at 4, (at 5, tt)),
        ← eqb-true (get_or b 0 0) 0x54 (and_left _ _ m),
        ← eqb-true (get_or b 1 0) 0x52 (and_left _ _ m₂),
      )
      (bytes-taken 6 b 0 h)

module _ (b : List ℕ) (small : AreBytes b) (s : Stands b) where
  bytes_from : (n : ℕ) → AreBytes (past (take n row_of) b)
  bytes_from n = past-below 256 (take n row_of) b small

  pub front-proper : Proper (front b)
  unfolding front behind
  front-proper =
      record {
        mode = at b small 3;
        key = number_of-lt (get_or b 4 0 ∷ get_or b 5 0 ∷ []) (at b small 4, (at b small 5, tt));
        label = part-proper (from_label b) (bytes_from 1) s.label;
        «data» = part-proper (from_data b) (bytes_from 2) s.«data»;
        iv = part-proper (from_iv b) (bytes_from 3) s.iv;
        room = word_fits (from_room b) (bytes_from 4);
        number = at (from_room b) (bytes_from 4) 4;
        output = part-proper (from_output b) (bytes_from 5) s.output;
      }

  same_fields : fields_of (front b) ≡ fields row_of b
  unfolding front behind middle
  same_fields =
      rw (
        head_back b small s.long s.mark,
        part_back (from_label b) (bytes_from 1) s.label,
        part_back (from_data b) (bytes_from 2) s.«data»,
        part_back (from_iv b) (bytes_from 3) s.iv,
        middle_back (from_room b) (bytes_from 4) s.middle,
        part_back (from_output b) (bytes_from 5) s.output,
      )

  -- The record that is read, written again, is what it was read from.
  pub front-written : written (front b) ++ after_record b ≡ b
  unfolding behind
  front-written =
      ap (λ (w : List ℕ). w ++ after_record b) (written_is (front b) ∙ ap joined same_fields) ∙ joined_fields row_of b
