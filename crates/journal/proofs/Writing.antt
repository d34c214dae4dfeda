-- The parts of a record are written one behind the other.
use Rattle.journal.proofs.Names.{Entry, Ok, List, ◌++◌, ◌+◌, ◌-◌, ◌∙◌, ◌≡◌, ◌≤◌, answered_of, ap, append_assoc, arith, asked_of}
use Rattle.journal.proofs.Names.{drop, false, head, le-ltb, length, length-append, length-bytes_of, middle, over}
use Rattle.journal.proofs.Names.{drop_at, over-append, over-behind, part, returned, sym, tailed, take, take_at, too_long, write}
use Rattle.journal.proofs.Names.{written, ℕ}

-- a copy of p at the front of an output, and behind it a copy of q
pub copied_behind : (p q m o t : List ℕ) (n : ℕ) → m ≡ p → length p ≡ n → t ≡ q
    → take n (m ++ drop n o) ++ (t ++ drop (n + length q - n) (drop n (m ++ drop n o))) ≡ over (p ++ q) o
copied_behind p q m o t n e l f =
    let k : n + length q - n ≡ length q = omega arith in
    rw (k, f, e, take_at p (drop n o) n l, drop_at p (drop n o) n l, ← l) (sym (over-append p q o))

-- a copy of p, and behind it q, which was put over what stands there
pub copied_then : (p q m o t : List ℕ) (n : ℕ) → m ≡ p → length p ≡ n → t ≡ over q (tailed n (m ++ drop n o))
    → returned n (m ++ drop n o) t ≡ over (p ++ q) o
copied_then p q m o t n e l f = over-behind p q o (m ++ drop n o) t n l (rw (e, l)) f

pub length-part-of : (p : List ℕ) → length (part p) ≡ 4 + length p
unfolding part
length-part-of p = rw length-append (omega (arith, length-bytes_of 4 (length p)))

pub length-head : (e : Entry) → length (head e) ≡ 6
unfolding head
length-head e = omega (arith, length-bytes_of 2 e.key)

pub length-middle : (e : Entry) → length (middle e) ≡ 5
unfolding middle
length-middle e = rw length-append (omega (arith, length-bytes_of 4 e.room))

pub length-written : (e : Entry) → length (written e) ≡ 27 + length e.label + length e.«data» + length e.iv + length e.output
unfolding written
length-written e = simp (length-append, length-part-of) (omega (arith, length-head e, length-middle e))

halves-joined : (h l d i m o : List ℕ) → (h ++ (l ++ (d ++ i))) ++ (m ++ o) ≡ h ++ (l ++ (d ++ (i ++ (m ++ o))))
halves-joined h l d i m o = simp append_assoc

-- the two halves of a record
module _ (e : Entry) where
  two_halves : asked_of e ++ answered_of e ≡ written e
  unfolding written
  two_halves = halves-joined (head e) (part e.label) (part e.«data») (part e.iv) (middle e) (part e.output)

  length_asked : length (asked_of e) ≡ 18 + length e.label + length e.«data» + length e.iv
  length_asked = simp (length-append, length-part-of) (omega (arith, length-head e))

  pub both-put : (n size : ℕ) (o o₁ t : List ℕ) → too_long e ≡ false → length (written e) ≤ length o → size ≡ length (written e)
      → n ≡ 18 + length e.label + length e.«data» + length e.iv → o₁ ≡ over (asked_of e) o
      → t ≡ over (answered_of e) (tailed n o₁) → record { wrote = Ok size; bytes = returned n o₁ t } ≡ write e o
  unfolding write
  both-put n size o o₁ t s h k l f g =
      let b : returned n o₁ t ≡ over (written e) o =
      over-behind (asked_of e) (answered_of e) o o₁ t n (length_asked ∙ sym l) f g ∙ ap (λ (x : List ℕ). over x o) two_halves in
      rw (s, le-ltb (length o) (length (written e)) h, b, k)
