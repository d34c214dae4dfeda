-- What it says of a piece that the pieces from it on follow one another to n, and that the check's test of one piece tells it.
use Rattle.block.proofs.Same.{by_test}
use Rattle.ranges.proofs.Names.{Bool, List, Plan, [], ◌%◌, ◌&&◌, ◌+◌, ◌-◌, ◌<◌, ◌||◌, ◌∙◌, ◌∷◌, ◌≡◌, ◌≢◌, ◌≤◌, add-one, and_left}
use Rattle.ranges.proofs.Names.{and_right, arith, by_order, cond, drop, drop-cons, drop_of_length-le, eq-eqb, eqb, eqb-false}
use Rattle.ranges.proofs.Names.{eqb-true, false, false≢true, follows, get_or, get_or-take, is_last, is_piece, le-leb, leb, leb-true}
use Rattle.ranges.proofs.Names.{length, length-drop, length-take-le, ne_eqb, not, not-true, refl, sym, take, true, ℕ}

-- the first of pieces that follow one another from `at` to n
pub record First (at n s l : ℕ) (ss ls : List ℕ) : Type 0 where
  pub starts_here : s ≡ at
  pub not-empty : l ≢ 0
  pub whole : 0 < length ss → l % 16 ≡ 0
  pub inside : at + l ≤ n
  pub rest : follows (at + l) n ss ls ≡ true

not_last : (ss : List ℕ) (l : ℕ) → (is_last ss || eqb (l % 16) 0) ≡ true → 0 < length ss → l % 16 ≡ 0
not_last [] l e h = absurd (omega (arith, h))
not_last (s ∷ ss) l e h = eqb-true (l % 16) 0 e

-- those behind it
behind : (at n s l : ℕ) (ss ls : List ℕ) → follows at n (s ∷ ss) (l ∷ ls) ≡ true → follows (at + l) n ss ls ≡ true
unfolding follows
behind at n s l ss ls e =
    and_right (is_last ss || eqb (l % 16) 0) _ (and_right (not (eqb l 0)) _ (and_right (eqb s at) _ e))

-- pieces that follow one another to n begin at n or before it
reaches : (at n : ℕ) (ss ls : List ℕ) → follows at n ss ls ≡ true → at ≤ n
unfolding follows
reaches at n [] ls e = omega (arith, eqb-true at n e)
reaches at n (s ∷ ss) [] e = absurd (false≢true e)
reaches at n (s ∷ ss) (l ∷ ls) e = omega (arith, reaches (at + l) n ss ls (behind at n s l ss ls e))

pub first_piece : (at n s l : ℕ) (ss ls : List ℕ) → follows at n (s ∷ ss) (l ∷ ls) ≡ true → First at n s l ss ls
unfolding follows
first_piece at n s l ss ls e =
    let from-length = and_right (eqb s at) _ e in
    record {
      starts_here = eqb-true s at (and_left (eqb s at) _ e);
      not-empty = eqb-false l 0 (not-true (eqb l 0) (and_left (not (eqb l 0)) _ from-length));
      whole = not_last ss l (and_left (is_last ss || eqb (l % 16) 0) _ (and_right (not (eqb l 0)) _ from-length));
      inside = reaches (at + l) n ss ls (behind at n s l ss ls e);
      rest = behind at n s l ss ls e;
    }

-- a test of four parts, the third of which the rest tells too
told : (a b c d rest : Bool) → (rest ≡ true → c ≡ true) → a && (b && (d && rest)) ≡ cond (a && (b && (c && d))) rest false
told true true true true rest f = refl
told true true true false rest f = refl
told true true false d true f = absurd (false≢true (f refl))
told true true false true false f = refl
told true true false false false f = refl
told true false c d rest f = refl
told false b c d rest f = refl

-- the pieces from number i on, which starts at byte `at`
abbrev pub follows_from : List ℕ → List ℕ → ℕ → ℕ → ℕ → ℕ → Bool
follows_from starts lengths count n i at = follows at n (drop i (take count starts)) (drop i (take count lengths))

module _ (starts lengths : List ℕ) (count i at n : ℕ)
    (room : count ≤ length starts) (room' : count ≤ length lengths) (inside : i < count) where
  abbrev s : ℕ
  s = get_or starts i 0

  abbrev l : ℕ
  l = get_or lengths i 0

  abbrev ss : List ℕ
  ss = drop (i + 1) (take count starts)

  abbrev ls : List ℕ
  ls = drop (i + 1) (take count lengths)

  pub turn : follows_from starts lengths count n i at ≡ follows at n (s ∷ ss) (l ∷ ls)
  turn =
      rw (add-one i, drop-cons (take count starts) i 0 (omega (arith, length-take-le count starts room)))
      (rw (drop-cons (take count lengths) i 0 (omega (arith, length-take-le count lengths room')), get_or-take count starts i 0 inside)
      (rw (get_or-take count lengths i 0 inside)))

  pub follows_on : follows_from starts lengths count n i at ≡ true → First at n s l ss ls
  follows_on e = first_piece at n s l ss ls (sym turn ∙ e)

  -- piece i is the last exactly where i + 1 pieces are all
  last : is_last ss ≡ eqb (i + 1) count
  last =
      let all = length-take-le count starts room in
      by_order (i + 1) count
      (λ h. rw (drop-cons (take count starts) (i + 1) 0 (omega arith), ne_eqb (i + 1) count (λ e. omega arith)))
      (λ h. rw (drop_of_length-le (take count starts) {i = i + 1} (omega arith), eq-eqb (i + 1) count (omega arith)))

  pub not_yet_last : i + 1 < count → 0 < length ss
  not_yet_last h = rw (length-drop (i + 1) (take count starts), length-take-le count starts room) (omega arith)

  pub last-or-whole : (i + 1 < count → l % 16 ≡ 0) → (is_last ss || eqb (l % 16) 0) ≡ true
  last-or-whole f =
      by_order (i + 1) count
      (λ h. rw (last, ne_eqb (i + 1) count (λ e. omega arith), eq-eqb (l % 16) 0 (f h)))
      (λ h. rw (last, eq-eqb (i + 1) count (omega arith)))

  module _ (here : at ≤ n) where
    -- the test of the piece decides, and after it those to come
    pub tested : follows_from starts lengths count n i at
        ≡ cond (is_piece s l at (n - at) (eqb (i + 1) count)) (follows_from starts lengths count n (i + 1) (at + l)) false
    unfolding follows is_piece
    tested =
        turn
        ∙ rw (← last)
        (told (eqb s at) (not (eqb l 0)) (leb l (n - at)) (is_last ss || eqb (l % 16) 0) (follows (at + l) n ss ls)
        (λ e. le-leb l (n - at) (omega (arith, reaches (at + l) n ss ls e))))

-- after the last piece
pub ends : (starts lengths : List ℕ) (count i at n : ℕ) → count ≤ length starts → count ≤ i
    → follows_from starts lengths count n i at ≡ eqb at n
unfolding follows
ends starts lengths count i at n room past =
    rw (drop_of_length-le (take count starts) {i = i} (omega (arith, length-take-le count starts room)))

-- where the pieces behind one follow to the end, it is the last exactly where it is all that is left
last-is-all : (at n l : ℕ) (ss ls : List ℕ) → follows (at + l) n ss ls ≡ true → is_last ss ≡ eqb l (n - at)
unfolding follows
last-is-all at n l [] ls e = sym (eq-eqb l (n - at) (omega (arith, eqb-true (at + l) n e)))
last-is-all at n l (s ∷ ss) [] e = absurd (false≢true e)
last-is-all at n l (s ∷ ss) (m ∷ ls) e =
    let f = first_piece (at + l) n s m ss ls e in sym (ne_eqb l (n - at) (λ z. f.not-empty (omega (arith, f.inside))))

-- what the check's test of piece i comes to
module _ (p : Plan) (n i at : ℕ) (room : length p.starts ≡ 64) (room' : length p.lengths ≡ 64) (few : p.count ≤ 64)
    (inside : i < p.count) (here : at ≤ n) {s l : ℕ} (start : s ≡ get_or p.starts i 0) (long : l ≡ get_or p.lengths i 0) {t : Bool}
    (test : t ≡ is_piece s l at (n - at) (eqb l (n - at))) where
  abbrev on : Bool
  on = follows_from p.starts p.lengths p.count n (i + 1) (at + l)

  -- either test of the last one tells as much, with those behind it
  either : (u v : Bool) → (on ≡ true → u ≡ v)
      → cond (is_piece s l at (n - at) u) on false ≡ cond (is_piece s l at (n - at) v) on false
  either u v f =
      by_test on (λ e. rw (f e))
      (λ e.
      rw e
      (by_test (is_piece s l at (n - at) u) (λ a. rw a (by_test (is_piece s l at (n - at) v) (λ b. rw b) (λ b. rw b)))
      (λ a. rw a (by_test (is_piece s l at (n - at) v) (λ b. rw b) (λ b. rw b)))))

  pub decided : follows_from p.starts p.lengths p.count n i at ≡ cond t on false
  decided =
      tested p.starts p.lengths p.count i at n (omega arith) (omega arith) inside here
      ∙ rw (← start, ← long, test)
      (either (eqb (i + 1) p.count) (eqb l (n - at))
      (λ e. sym (last p.starts p.lengths p.count i at n (omega arith) (omega arith) inside) ∙ last-is-all at n l _ _ e))

  pub fits : t ≡ true → at + l ≤ n
  unfolding is_piece
  fits e =
      let yes = sym test ∙ e in
      let f = leb-true l (n - at) (and_left (leb l (n - at)) _ (and_right (not (eqb l 0)) _ (and_right (eqb s at) _ yes))) in
      omega (arith, f)
