-- The two steps agree exactly where the last four bytes are not ff ff ff ff.
use Rattle.block.proofs.Base.{◌%◌, ◌*◌, ◌+◌, ◌-◌, ◌/◌, ◌<◌, ◌^◌, ℕ, ◌∙◌, ◌≡◌, ap, sym, ◌↔◌, List, ◌++◌, add-zero}
use Rattle.block.proofs.Base.{mod-eq_of_lt, mod-lt, arith, lit<, drop, length, length-drop, take, take-append-drop, length-take-le, take_at}
use Rattle.block.specs.Below.{AreBytes}
use Rattle.block.specs.BigEndian.{number_of, bytes_of}
use Rattle.block.proofs.Entries.{below-take}
use Rattle.block.proofs.Convert.{length-bytes_of, number_of-lt, number_of-bytes_of, bytes_of-number_of, number_of-append, bytes_of-append}
use Rattle.counter.specs.Counter.{last_four, ctr_next, gcm_next}
use Rattle.counter.proofs.Carry.{carry}
use Rattle.counter.proofs.JumpSteps.{last-lt}

-- no number is one more than itself, also where it wraps
no_turn : (h : ℕ) → h < 2 ^ 96 → (h + 1) % 2 ^ 96 % 2 ^ 96 ≡ h → ⊥
no_turn h l e = omega arith

-- the number in the first twelve bytes
abbrev first_twelve : List ℕ → ℕ
first_twelve c = number_of (take 12 c)

module _ (c : List ℕ) (n : length c ≡ 16) (b : AreBytes c) where
  twelve : length (take 12 c) ≡ 12
  twelve = length-take-le 12 c (omega arith)

  high_lt : first_twelve c < 2 ^ 96
  high_lt = rw twelve at (number_of-lt (take 12 c) (below-take 256 12 c b))

  in_parts : ctr_next c ≡ bytes_of 12 ((first_twelve c + (last_four c + 1) / 2 ^ 32) % 2 ^ 96) ++ bytes_of 4 ((last_four c + 1) % 2 ^ 32)
  unfolding ctr_next
  in_parts =
      let l : length (drop 12 c) ≡ 4 = rw length-drop (omega arith) in
      let parts : number_of c ≡ first_twelve c * 2 ^ 32 + last_four c =
      ap number_of (sym (take-append-drop 12 c)) ∙ number_of-append (take 12 c) (drop 12 c) ∙ rw l in
      rw (parts, carry (2 ^ 96) (2 ^ 32) (first_twelve c) (last_four c) 1 (lit< tt) (lit< tt))
      (bytes_of-append 12 4 _ ((last_four c + 1) % 2 ^ 32) (mod-lt (last_four c + 1) (lit< tt)))

  apart : last_four c ≡ 2 ^ 32 - 1 → ctr_next c ≡ gcm_next c → ⊥
  unfolding gcm_next
  apart e q =
      let k = (first_twelve c + 1) % 2 ^ 96 in
      let one : (last_four c + 1) / 2 ^ 32 ≡ 1 = omega arith in
      let z : bytes_of 12 k ≡ take 12 c =
      sym (take_at (bytes_of 12 k) _ 12 (length-bytes_of 12 k))
      ∙ ap (take 12) (sym (rw one at in_parts) ∙ q)
      ∙ take_at (take 12 c) _ 12 twelve in
      no_turn (first_twelve c) high_lt (sym (number_of-bytes_of 12 k) ∙ ap number_of z)

  same : (last_four c ≡ 2 ^ 32 - 1 → ⊥) → ctr_next c ≡ gcm_next c
  unfolding gcm_next
  same f =
      let none : (last_four c + 1) / 2 ^ 32 ≡ 0 = omega (arith, f, last-lt 12 4 c n b) in
      in_parts ∙ rw (none, add-zero, mod-eq_of_lt high_lt, rw twelve at (bytes_of-number_of (take 12 c) (below-take 256 12 c b)))

  pub steps_agree : (ctr_next c ≡ gcm_next c) ↔ (number_of (drop 12 c) ≡ 2 ^ 32 - 1 → ⊥)
  steps_agree = (λ q e. apart e q, same)
