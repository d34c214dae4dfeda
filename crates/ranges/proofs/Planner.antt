-- What is known where the planner made a plan: the workers are 1 to 64, n is within the limit, and the plan is accepted.
use Rattle.ranges.proofs.Names.{BadWorkers, Bool, Err, NotMade, Ok, Plan, Result, TooLong, [], ◌||◌, ◌∷◌, ◌≡◌, ◌≢◌, ◌≤◌, accepts, arith}
use Rattle.ranges.proofs.Names.{cond, eqb, eqb-false, false, lengths_from, limit, ltb, ltb-false, piece_size, plan_of, planned, refl}
use Rattle.ranges.proofs.Names.{take, true, ℕ}
use Rattle.ranges.proofs.OwnPlans.{own_accepted}

pub record InOrder (n w : ℕ) (p : Plan) : Type 0 where
  pub least : 1 ≤ w
  pub most : w ≤ 64
  pub within : n ≤ limit
  pub as_planned : p ≡ plan_of n w

-- the planner's answer by its tests
abbrev by_tests : ℕ → ℕ → Bool → Bool → Bool → Result Plan NotMade
by_tests n w none many long = cond (none || many) (Err BadWorkers) (cond long (Err TooLong) (Ok (plan_of n w)))

module _ (n w : ℕ) {p : Plan} where
  all_pass : (none many long : Bool) → by_tests n w none many long ≡ Ok p
      → (none ≡ false) × (many ≡ false) × (long ≡ false) × (p ≡ plan_of n w)
  all_pass true many long e = absurd cc
  all_pass false true long e = absurd cc
  all_pass false false true e = absurd cc
  all_pass false false false e = (refl, refl, refl, cc)

  module _ (made : planned n w ≡ Ok p) where
    pub in_order : InOrder n w p
    unfolding planned
    in_order =
        let pass = all_pass (eqb w 0) (ltb 64 w) (ltb limit n) made in
        let some : w ≢ 0 = eqb-false w 0 pass.0 in
        record {
          least = omega (arith, some);
          most = ltb-false 64 w pass.1;
          within = ltb-false limit n pass.2;
          as_planned = pass.3;
        }

    pub made_accepted : accepts p n ≡ true
    made_accepted = rw in_order.as_planned (own_accepted n w in_order.least in_order.most)

-- 100 bytes for 3 workers: two pieces of three blocks, and what is left
pub hundred_for_three : take 4 (plan_of 100 3).lengths ≡ 48 ∷ 48 ∷ 4 ∷ 0 ∷ []
unfolding piece_size lengths_from
hundred_for_three = refl
