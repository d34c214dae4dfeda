-- One more place of a plan, stored in the arrays and counted, and all 64.
use Rattle.ranges.proofs.Names.{List, Plan, ◌++◌, ◌+◌, ◌-◌, ◌<◌, ◌∙◌, ◌≡◌, ◌≤◌, add_assoc, add-one, add-zero, ap, append_assoc, append-nil}
use Rattle.ranges.proofs.Names.{arith, begins, by_order, count_from, drop, drop-drop, drop-set-lt, le-ltb, length, length_at, lengths_from}
use Rattle.ranges.proofs.Names.{lt-ltb, min, refl, replicate, set, start_at, starts_from, suc, sym, take, take_all, take-append-drop}
use Rattle.ranges.proofs.Names.{take-suc-set, zero, ℕ}
use Rattle.ranges.proofs.OwnPlans.{past}

-- the places before place i, which is at byte `at`, and those still to come
abbrev pub laid : ℕ → ℕ → ℕ → List ℕ → List ℕ → ℕ → ℕ → Plan
laid n size count starts lengths at i = record {
  count = count + count_from n size (64 - i) at;
  starts = take i starts ++ starts_from n size (64 - i) at;
  lengths = take i lengths ++ lengths_from n size (64 - i) at;
}

module _ (n size count : ℕ) (starts lengths : List ℕ) (at i : ℕ) (room : length starts ≡ 64) (room' : length lengths ≡ 64) where
  -- one more
  pub laid_more : i < 64 → (b s l : ℕ) → b ≡ begins n at → s ≡ start_at n at → l ≡ length_at n size at
      → laid n size (count + b) (set starts i s) (set lengths i l) (at + size) (i + 1) ≡ laid n size count starts lengths at i
  unfolding count_from starts_from lengths_from
  laid_more h b s l e f g =
      let k : 64 - i ≡ suc (64 - (i + 1)) = omega arith in
      rw (k, add-one i, take-suc-set starts i s (omega arith), take-suc-set lengths i l (omega arith), ← e, ← f, ← g)
      (simp (append_assoc, add_assoc))

  -- after the last
  pub laid_all : 64 ≤ i
      → ◌≡◌ {A = Plan} (record { count = count; starts = starts; lengths = lengths }) (laid n size count starts lengths at i)
  unfolding count_from starts_from lengths_from
  laid_all h =
      let k : 64 - i ≡ 0 = omega arith in
      rw (k, add-zero, take_all i starts (omega arith), take_all i lengths (omega arith), append-nil starts, append-nil lengths)

-- at n or past it all places are zeros
module _ (n size : ℕ) where
  no_more_starts : (k at : ℕ) → n ≤ at → starts_from n size k at ≡ replicate k 0
  unfolding starts_from
  no_more_starts zero at h = refl
  no_more_starts (suc k) at h = rw (le-ltb at n h, no_more_starts k (at + size) (omega arith))

  no_more_lengths : (k at : ℕ) → n ≤ at → lengths_from n size k at ≡ replicate k 0
  unfolding lengths_from
  no_more_lengths zero at h = refl
  no_more_lengths (suc k) at h =
      let none : n - at ≡ 0 = omega arith in rw (none, le-ltb size 0 (omega arith), no_more_lengths k (at + size) (omega arith))

  -- so a plan whose other places are zeros is laid
  pub laid_to : (p : Plan) (at i : ℕ) → n ≤ at → p.count ≡ i → drop i p.starts ≡ replicate (64 - i) 0
      → drop i p.lengths ≡ replicate (64 - i) 0 → p ≡ laid n size i p.starts p.lengths at i
  laid_to p at i h e f g =
      let starts : take i p.starts ++ starts_from n size (64 - i) at ≡ p.starts =
      rw (no_more_starts (64 - i) at h, ← f) (take-append-drop i p.starts) in
      let lengths : take i p.lengths ++ lengths_from n size (64 - i) at ≡ p.lengths =
      rw (no_more_lengths (64 - i) at h, ← g) (take-append-drop i p.lengths) in
      rw (starts, lengths, past n size (64 - i) at h, add-zero, ← e)

-- a place is laid, and those behind it are still zeros
pub zeros_left : (s : List ℕ) (i v k : ℕ) → drop i s ≡ replicate (suc k) 0 → drop (i + 1) (set s i v) ≡ replicate k 0
zeros_left s i v k e =
    let b : i < i + 1 = omega arith in
    drop-set-lt (i + 1) s i v b ∙ sym (drop-drop 1 i s) ∙ ap (drop 1) e

-- the smaller of the two is the length of a piece
pub length_least : (n size at : ℕ) → min size (n - at) ≡ length_at n size at
length_least n size at =
    by_order size (n - at) (λ h. rw (lt-ltb size (n - at) h) (omega arith)) (λ h. rw (le-ltb size (n - at) h) (omega arith))
