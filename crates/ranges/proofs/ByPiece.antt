-- The check accepts a plan exactly when the plan reads, piece by piece, as it should.
use Rattle.ranges.proofs.Names.{Bool, Piece, Plan, Reading, ◌+◌, ◌<◌, ◌∙◌, ◌≡◌, accepts, add-one, arith, drop, eq-eqb, eqb-true}
use Rattle.ranges.proofs.Names.{follows, get_or, le-leb, length, ne_eqb, refl, suc, sym, take, true, zero, ℕ}
use Rattle.ranges.proofs.Accepted.{at_most_64, from_0_to_n, no_pieces_lem, in_arrays}
use Rattle.ranges.proofs.Following.{First, follows_from, turn, follows_on, not_yet_last, last-or-whole, ends}

module _ (p : Plan) (n : ℕ) (room : length p.starts ≡ 64) where
  abbrev start : ℕ → ℕ
  start i = get_or p.starts i 0

  abbrev size : ℕ → ℕ
  size i = get_or p.lengths i 0

  -- the pieces from number i on follow one another from byte `at` to n
  abbrev from : ℕ → ℕ → Bool
  from i at = follows_from p.starts p.lengths p.count n i at

  module _ (accepted : accepts p n ≡ true) where
    -- piece i is the first of those from it on
    first_of : (i at : ℕ) → i < p.count → from i at ≡ true
        → First at n (start i) (size i) (drop (i + 1) (take p.count p.starts)) (drop (i + 1) (take p.count p.lengths))
    first_of i at h e =
        let all = in_arrays p n accepted room in
        follows_on p.starts p.lengths p.count i at n all.0 all.1 h e

    -- from piece i on the pieces follow where it starts
    reached : (i : ℕ) → i < p.count → from i (start i) ≡ true
    reached zero h = let all = from_0_to_n p n accepted in rw (first_of 0 0 h all).starts_here all
    reached (suc i) h =
        let rest = rw (add-one i) at (first_of i (start i) (omega arith) (reached i (omega arith))).rest in
        rw (first_of (suc i) (start i + size i) h rest).starts_here rest

    piece : (i : ℕ) → i < p.count → Piece p.starts p.lengths p.count n i
    piece i h =
        let f = first_of i (start i) h (reached i h) in
        let end = start i + size i in
        let all = in_arrays p n accepted room in
        record {
          not-empty = f.not-empty;
          goes_on_lem = λ g. (
            f.whole (not_yet_last p.starts p.lengths p.count i (start i) n all.0 all.1 h (omega arith)),
            (first_of (suc i) end g (rw (add-one i) at f.rest)).starts_here,
          );
          ends = λ g. eqb-true end n (sym (ends p.starts p.lengths p.count (i + 1) end n all.0 (omega arith)) ∙ f.rest);
        }

    pub accepted_reading : Reading p n
    accepted_reading =
        record {
          few = at_most_64 p n accepted;
          none = no_pieces_lem p n accepted;
          first = λ h. (first_of 0 0 h (from_0_to_n p n accepted)).starts_here;
          piece = piece;
        }

  pub reading_accepted : length p.lengths ≡ 64 → Reading p n → accepts p n ≡ true
  unfolding accepts follows
  reading_accepted room' r =
      let few = r.few in
      rw (le-leb p.count 64 few) (back p.count 0 0 (omega arith) (λ e. sym (r.none e)) r.first)
    where
      -- from the last piece to the first, k of them from piece i on
      back : (k i at : ℕ) → i + k ≡ p.count → (k ≡ 0 → at ≡ n) → (0 < k → start i ≡ at) → from i at ≡ true
      back zero i at e none first =
          let few = r.few in
          rw (ends p.starts p.lengths p.count i at n (omega arith) (omega arith)) (eq-eqb at n (none refl))
      back (suc k) i at e none first =
          let few = r.few in
          let q = r.piece i (omega arith) in
          let here = first (omega arith) in
          let last = last-or-whole p.starts p.lengths p.count i at n (omega arith) (omega arith) (omega arith)
          (λ h. (q.goes_on_lem (omega arith)).0) in
          rw (turn p.starts p.lengths p.count i at n (omega arith) (omega arith) (omega arith), eq-eqb (start i) at here)
          (rw (ne_eqb (size i) 0 q.not-empty, last)
          (back k (i + 1) (at + size i) (omega arith) (λ h. rw (← here) (q.ends (omega arith)))
          (λ h. rw (add-one i) ((q.goes_on_lem (omega arith)).1 ∙ rw here))))
