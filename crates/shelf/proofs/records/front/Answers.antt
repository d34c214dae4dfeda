-- Each return is the definition, by the tests that led there; the head that they read is the first bytes of the part.
use Rattle.shelf.proofs.Names.{List, Some, ◌-◌, ◌*◌, ◌+◌, ◌^◌, ◌∙◌, ◌≡◌, ◌<◌, arith, eqb, front, get_or, head_at, le-leb, length, lt-leb, marked}
use Rattle.shelf.proofs.Names.{number_of, length-drop, starts_record, sym, take, true, word_at, written, ℕ}
use Rattle.std.proofs.lemmas.List.{get_or-take}
use Rattle.shelf.proofs.Reading.{head-size, size_starts, starts_here}
use Rattle.shelf.proofs.records.front.Goals as goal

-- the head h was taken from the front of b
module _ (b h : List ℕ) (e : h ≡ take 12 b) where
  at : (i : ℕ) → i < 12 → get_or h i 0 ≡ get_or b i 0
  at i k = rw e (get_or-take 12 b i 0 k)

  marked_at : marked h ≡ marked b
  unfolding marked
  marked_at = rw (at 0 (omega arith), at 1 (omega arith))

  job_at : word_at h 2 ≡ word_at b 2
  job_at = rw (at 2 (omega arith), at 3 (omega arith), at 4 (omega arith), at 5 (omega arith))

  size_word : word_at h 8 ≡ word_at b 8
  size_word = rw (at 8 (omega arith), at 9 (omega arith), at 10 (omega arith), at 11 (omega arith))

pub returns-in_err-head : goal.returns-in_err-head
unfolding head_at starts_record
returns-in_err-head c =
    let short = c.in_err-head.ensures.cases in
    rw c.from_residual.ensures (rw (lt-leb 12 (length c.args.s.now) (omega arith)))

pub returns-then-not-marked : goal.returns-then-not-marked
unfolding head_at starts_record
returns-then-not-marked c =
    let b = c.args.s.now in
    let start = c.in_ok-head.ensures.cases in
    rw (
      le-leb 12 (length b) (omega (arith, start.2)),
      ← marked_at b _ start.0,
      sym c.marked.ensures ∙ c.if-not-marked.true,
    )

pub returns-then-sealed-rest : goal.returns-then-sealed-rest
unfolding head_at starts_record
returns-then-sealed-rest c =
    let b = c.args.s.now in
    let start = c.in_ok-head.ensures.cases in
    let size = c.word_at-sealed.ensures ∙ size_word b _ start.0 in
    let left : length c.in_ok-head.rest.now ≡ length b - 12 = rw start.1 (length-drop 12 b) in
    rw (
      le-leb 12 (length b) (omega (arith, start.2)),
      ← marked_at b _ start.0,
      sym c.marked.ensures ∙ c.if-not-marked.false,
      ← size,
      ← left,
      lt-leb _ _ c.if-sealed-rest.true,
    )

-- what the head says that is read
read : (b : List ℕ) (n job edition : ℕ) → starts_record b ≡ true → n ≡ word_at b 8 → job ≡ word_at b 2
    → edition ≡ get_or b 6 0 * 256 + get_or b 7 0
    → Some (record { size = 12 + n; current = eqb (get_or b 1 0) 0x44; job = job; edition = edition }) ≡ head_at b
unfolding head_at front number_of
read b n job edition f e₁ e₂ e₃ =
    let long : 12 + n ≡ length (written (front b)) = omega (arith, e₁, head-size b f, size_starts b f) in
    let low : edition ≡ get_or b 6 0 * 256 ^ 1 + (get_or b 7 0 * 256 ^ 0 + 0) = omega (arith, e₃) in
    rw (f, ← long, e₂, ← low)

pub returns : goal.returns
returns c =
    let b = c.args.s.now in
    let start = c.in_ok-head.ensures.cases in
    let h = c.in_ok-head.head.now in
    let size = c.word_at-sealed.ensures ∙ size_word b h start.0 in
    let left : length c.in_ok-head.rest.now ≡ length b - 12 = rw start.1 (length-drop 12 b) in
    let marks = sym (marked_at b h start.0) ∙ (sym c.marked.ensures ∙ c.if-not-marked.false) in
    let f = starts_here b (omega (arith, start.2)) marks size (omega (arith, left, c.if-sealed-rest.false)) in
    let two : c.from_be_bytes.result ≡ get_or b 6 0 * 256 + get_or b 7 0 =
    c.from_be_bytes.ensures ∙ rw (at b h start.0 6 (omega arith), at b h start.0 7 (omega arith)) in
    rw (at b h start.0 1 (omega arith)) (read b _ _ _ f size (c.word_at.ensures ∙ job_at b h start.0) two)
