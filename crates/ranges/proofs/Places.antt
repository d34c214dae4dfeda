-- The places of a plan past its pieces hold 0.
use Rattle.ranges.proofs.Names.{◌+◌, ◌-◌, ◌≡◌, ◌≤◌, arith, by_order, count_from, get_or, le-ltb, lengths_from, piece_size, plan_of, refl}
use Rattle.ranges.proofs.Names.{starts_from, suc, zero, ℕ}
use Rattle.ranges.proofs.OwnPlans.{before}

-- n bytes in pieces of `size`
module _ (n size : ℕ) where
  -- k places from `at` on: place i past the pieces holds 0
  abbrev Empty : ℕ → ℕ → ℕ → Type 0
  Empty k at i = (get_or (starts_from n size k at) i 0 ≡ 0) × (get_or (lengths_from n size k at) i 0 ≡ 0)

  all_empty : (k at i : ℕ) → n ≤ at → Empty k at i
  unfolding starts_from lengths_from
  all_empty zero at i h = (refl, refl)
  all_empty (suc k) at zero h =
      let none : n - at ≡ 0 = omega arith in
      (rw (le-ltb at n h), rw (none, le-ltb size 0 (omega arith)))
  all_empty (suc k) at (suc i) h = all_empty k (at + size) i (omega arith)

  empty : (k at i : ℕ) → count_from n size k at ≤ i → Empty k at i
  unfolding starts_from lengths_from
  empty zero at i h = (refl, refl)
  empty (suc k) at zero h = by_order at n (λ f. absurd (omega (arith, h, before n size k at f))) (all_empty (suc k) at 0)
  empty (suc k) at (suc i) h =
      by_order at n (λ f. empty k (at + size) i (omega (arith, h, before n size k at f))) (all_empty (suc k) at (suc i))

pub past_the_count : (n w i : ℕ) → (plan_of n w).count ≤ i → (get_or (plan_of n w).starts i 0 ≡ 0) × (get_or (plan_of n w).lengths i 0 ≡ 0)
past_the_count n w i h = empty n (piece_size n w) 64 0 i h
