-- What is known of a plan that is accepted, and that no sum wraps in the check.
use Rattle.ranges.proofs.Names.{List, Plan, [], ◌+◌, ◌∷◌, ◌≡◌, ◌≤◌, accepts, and_left, and_right, arith, by_order, eqb-true, false}
use Rattle.ranges.proofs.Names.{false≢true, follows, leb, leb-true, length, length-take, refl, sym, take, true, ℕ}
use Rattle.ranges.proofs.Following.{first_piece, follows_on}

as_many : (at n : ℕ) (ss ls : List ℕ) → follows at n ss ls ≡ true → length ss ≤ length ls
unfolding follows
as_many at n [] ls e = omega arith
as_many at n (s ∷ ss) [] e = absurd (false≢true e)
as_many at n (s ∷ ss) (l ∷ ls) e = omega (arith, as_many (at + l) n ss ls (first_piece at n s l ss ls e).rest)

module _ (p : Plan) (n : ℕ) (accepted : accepts p n ≡ true) where
  pub at_most_64 : p.count ≤ 64
  unfolding accepts
  at_most_64 = leb-true p.count 64 (and_left (leb p.count 64) _ accepted)

  pub from_0_to_n : follows 0 n (take p.count p.starts) (take p.count p.lengths) ≡ true
  unfolding accepts
  from_0_to_n = and_right (leb p.count 64) _ accepted

  -- a plan without pieces is one of no bytes
  pub no_pieces_lem : p.count ≡ 0 → n ≡ 0
  unfolding follows
  no_pieces_lem e = sym (eqb-true 0 n (rw e at from_0_to_n))

  -- every piece has its start and its length in the arrays
  pub in_arrays : length p.starts ≡ 64 → (p.count ≤ length p.starts) × (p.count ≤ length p.lengths)
  in_arrays room =
      let few = at_most_64 in
      let many = as_many 0 n _ _ from_0_to_n in
      let starts = length-take p.count p.starts in
      let lengths = length-take p.count p.lengths in
      (omega arith, omega arith)

-- and a plan of no bytes is one without pieces
pub no_bytes : (p : Plan) → length p.starts ≡ 64 → accepts p 0 ≡ true → p.count ≡ 0
no_bytes p room accepted =
    let all = in_arrays p 0 accepted room in
    by_order 0 p.count
    (λ h. let first = follows_on p.starts p.lengths p.count 0 0 0 all.0 all.1 h (from_0_to_n p 0 accepted) in
    absurd (first.not-empty (omega (arith, first.inside))))
    (λ h. omega arith)

-- 2^63
abbrev half : ℕ
half = 9223372036854775808

-- two lengths of 2^63 do not add up to 0 bytes
pub wraps_nowhere : (starts lengths : List ℕ)
    → accepts (record { count = 2; starts = 0 ∷ half ∷ starts; lengths = half ∷ half ∷ lengths }) 0 ≡ false
unfolding accepts follows
wraps_nowhere starts lengths = refl
