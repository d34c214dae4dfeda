-- The planner's plans are accepted, have no more pieces than workers, and no piece is longer than its share.
use Rattle.ranges.proofs.Names.{Bool, ◌%◌, ◌*◌, ◌+◌, ◌-◌, ◌<◌, ◌∙◌, ◌≡◌, ◌≤◌, accepts, arith, by_order, count_from, eq-eqb, follows}
use Rattle.ranges.proofs.Names.{get_or, le-leb, le-ltb, lengths_from, lt-ltb, mul-le-mul_right, ne_eqb, or-true, piece_size, plan_of}
use Rattle.ranges.proofs.Names.{refl, starts_from, suc, suc-mul, take, true, zero, ℕ}
use Rattle.ranges.proofs.Sharing.{whole-blocks, hold_all, none-empty}

-- n bytes in pieces of `size`
module _ (n size : ℕ) where
  -- at n or past it no piece begins
  pub past : (k at : ℕ) → n ≤ at → count_from n size k at ≡ 0
  unfolding count_from
  past zero at h = refl
  past (suc k) at h = rw (le-ltb at n h, past k (at + size) (omega arith))

  -- before it one does
  pub before : (k at : ℕ) → at < n → count_from n size (suc k) at ≡ suc (count_from n size k (at + size))
  unfolding count_from
  before k at h = rw (lt-ltb at n h) (omega arith)

  -- where w pieces hold what is left, no more than w begin
  no_more : (k at w : ℕ) → n ≤ at + w * size → count_from n size k at ≤ w
  unfolding count_from
  no_more zero at w h = omega arith
  no_more (suc k) at zero h = rw (past (suc k) at (omega (arith, h))) (omega arith)
  no_more (suc k) at (suc w) h =
      let rest = no_more k (at + size) w (omega (arith, h, suc-mul w size)) in
      by_order at n (λ f. rw (before k at f) (omega arith)) (λ f. rw (past (suc k) at f) (omega arith))

  -- the pieces laid in k places from byte `at` on
  abbrev laid : ℕ → ℕ → Bool
  laid k at = follows at n (take (count_from n size k at) (starts_from n size k at)) (take (count_from n size k at) (lengths_from n size k at))

  no_piece : (k at : ℕ) → at ≡ n → laid k at ≡ true
  unfolding follows
  no_piece k at e = rw (past k at (omega (arith, e))) (eq-eqb at n e)

  last-piece : (k at : ℕ) → at < n → n ≤ at + size → laid (suc k) at ≡ true
  unfolding follows starts_from lengths_from
  last-piece k at h g =
      let some = ne_eqb (n - at) 0 (λ e. omega (arith, e)) in
      let end : at + (n - at) ≡ n = omega arith in
      rw (before k at h, past k (at + size) g, lt-ltb at n h, le-ltb size (n - at) (omega arith), eq-eqb at at refl, some, end)
      (rw (eq-eqb n n refl))

  full_piece : size % 16 ≡ 0 → 1 ≤ size → (k at : ℕ) → at + size < n → laid (suc k) at ≡ laid k (at + size)
  unfolding follows starts_from lengths_from
  full_piece whole some k at h =
      let more = ne_eqb size 0 (λ e. omega (arith, e)) in
      let less = lt-ltb size (n - at) (omega arith) in
      rw (before k at (omega arith), lt-ltb at n (omega arith), less, eq-eqb at at refl, more, eq-eqb (size % 16) 0 whole, or-true)

  -- where k places hold what is left, what is laid in them follows to n
  all_laid : size % 16 ≡ 0 → (1 ≤ n → 1 ≤ size) → (k at : ℕ) → at ≤ n → n ≤ at + k * size → laid k at ≡ true
  all_laid whole some zero at h g = no_piece zero at (omega (arith, g))
  all_laid whole some (suc k) at h g =
      by_order at n
      (λ e. by_order (at + size) n
      (λ f. full_piece whole (some (omega arith)) k at f
      ∙ all_laid whole some k (at + size) (omega arith) (omega (arith, g, suc-mul k size)))
      (λ f. last-piece k at e f))
      (λ e. no_piece (suc k) at (omega arith))

  no_longer : (k at i : ℕ) → get_or (lengths_from n size k at) i 0 ≤ size
  unfolding lengths_from
  no_longer zero at i = omega arith
  no_longer (suc k) at zero = by_order size (n - at) (λ e. rw (lt-ltb _ _ e) (omega arith)) (λ e. rw (le-ltb _ _ e) (omega arith))
  no_longer (suc k) at (suc i) = no_longer k (at + size) i

-- for 1 to 64 workers
module _ (n w : ℕ) (least : 1 ≤ w) where
  pub no_more_than_workers : (plan_of n w).count ≤ w
  no_more_than_workers = no_more n (piece_size n w) 64 0 w (omega (arith, hold_all n w least))

  pub own_accepted : w ≤ 64 → accepts (plan_of n w) n ≡ true
  unfolding accepts
  own_accepted most =
      let few = no_more_than_workers in
      let all = hold_all n w least in
      let more = mul-le-mul_right (piece_size n w) most in
      rw (le-leb (plan_of n w).count 64 (omega (arith, few)))
      (all_laid n (piece_size n w) (whole-blocks n w) (none-empty n w least) 64 0 (omega arith) (omega (arith, all, more)))

pub no_longer_than_share : (n w i : ℕ) → get_or (plan_of n w).lengths i 0 ≤ piece_size n w
no_longer_than_share n w i = no_longer n (piece_size n w) 64 0 i
