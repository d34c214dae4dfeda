-- The formula says what the steps say. In any number of bytes: a number either comes round at once, and both say yes, or the next
-- one is one more and still below the modulus, and the steps left are one fewer (`any_tells`).
use Rattle.block.proofs.Base.{◌+◌, ◌-◌, ◌<◌, ◌^◌, suc, zero, ℕ, ◌∙◌, ◌≡◌, ap, refl, sym, inl, inr, List, eq-or-lt_of_le}
use Rattle.block.proofs.Base.{mod-eq_of_lt, arith, eq-eqb, le-leb, lt-leb, ne_eqb, eqb, leb, drop, length, length-append}
use Rattle.block.proofs.Base.{take, length-take-le}
use Rattle.block.specs.Below.{AreBytes}
use Rattle.block.specs.BigEndian.{number_of}
use Rattle.block.proofs.Entries.{below-take, below-append}
use Rattle.block.proofs.Convert.{length-bytes_of, bytes_of-bytes}
use Rattle.counter.specs.Counter.{ctr_next, ctr_passes, gcm_next, gcm_passes, last_four}
use Rattle.counter.proofs.JumpSteps.{jump_in, last-lt, jump-last}
use Rattle.counter.specs.CameRound.{ctr_came_round, gcm_came_round, any_passes}

-- over the last w of sixteen bytes
any_tells : (p w : ℕ) → p + w ≡ 16 → (n : ℕ) (c : List ℕ) → length c ≡ 16 → AreBytes c
    → any_passes (λ c. jump_in p w c 1) (λ c. eqb (number_of (drop p c) + 1) (256 ^ w)) n c ≡ leb (256 ^ w) (number_of (drop p c) + n)
unfolding any_passes
any_tells p w s zero c k a = sym (lt-leb (256 ^ w) (number_of (drop p c) + 0) (omega (arith, last-lt p w c (k ∙ sym s) a)))
any_tells p w s (suc n) c k a =
    let v = number_of (drop p c) in
    let next = jump_in p w c 1 in
    elim (eq-or-lt_of_le (last-lt p w c (k ∙ sym s) a)) [
      | inl q ↦
          let round : v + 1 ≡ 256 ^ w = omega arith in
          rw (eq-eqb (v + 1) (256 ^ w) round) (sym (le-leb (256 ^ w) (v + suc n) (omega arith)))
      | inr l ↦
          let under : v + 1 < 256 ^ w = omega arith in
          let one : number_of (drop p next) ≡ v + 1 = jump-last p w c (omega arith) 1 ∙ mod-eq_of_lt under in
          let same : number_of (drop p next) + n ≡ v + suc n = omega arith in
          let long : length next ≡ 16 = simp (length-append, length-bytes_of, length-take-le p c (omega arith)) s in
          let bytes : AreBytes next = below-append 256 (take p c) _ (below-take 256 p c a) (bytes_of-bytes w _) in
          rw (ne_eqb (v + 1) (256 ^ w) (λ z. omega arith)) (any_tells p w s n next long bytes ∙ ap (leb (256 ^ w)) same)
    ]

-- Ctr's b blocks have b - 1 steps between them: the step after the last block does not count
pub ctr_steps_tell : (iv : List ℕ) → length iv ≡ 16 → AreBytes iv → (b : ℕ)
    → any_passes ctr_next ctr_passes (b - 1) iv ≡ ctr_came_round iv b
unfolding ctr_came_round any_passes ctr_next ctr_passes
ctr_steps_tell iv n a zero = refl
ctr_steps_tell iv n a (suc b) = rw (le-leb 1 (suc b) (omega arith)) (any_tells 0 16 refl (suc b - 1) iv n a)

-- GCM's b blocks have b steps, the first from J0, which is no block's
pub gcm_steps_tell : (j : List ℕ) → length j ≡ 16 → AreBytes j → (b : ℕ)
    → any_passes gcm_next gcm_passes b j ≡ gcm_came_round (last_four j) b
unfolding gcm_came_round gcm_next gcm_passes
gcm_steps_tell j n a b = any_tells 12 4 refl b j n a
