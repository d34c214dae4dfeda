-- A jump is as many steps, Ctr's and GCM's: none leaves the counter, and one more may be the first. Both count in the last w bytes of a
-- block and keep the p bytes before these: Ctr's w is sixteen, GCM's four.
use Rattle.block.proofs.Base.{◌%◌, ◌+◌, ◌<◌, ◌^◌, ◌≤◌, suc, ℕ, ◌≡◌, List, ◌++◌, add-zero, mod-add-mod, mod-eq_of_lt, mod-mod}
use Rattle.block.proofs.Base.{arith, drop, length, length-drop, take, take-append-drop, drop_at, length-take-le, take_at}
use Rattle.block.specs.Below.{AreBytes}
use Rattle.block.specs.BigEndian.{number_of, bytes_of}
use Rattle.block.proofs.Entries.{below-drop}
use Rattle.block.proofs.Convert.{number_of-lt, number_of-bytes_of, bytes_of-number_of}
use Rattle.counter.specs.Counter.{ctr_jump, ctr_next, gcm_jump, gcm_next}

-- k more in the last w bytes
abbrev pub jump_in : ℕ → ℕ → List ℕ → ℕ → List ℕ
jump_in p w c k = take p c ++ bytes_of w ((number_of (drop p c) + k) % 256 ^ w)

module _ (p w : ℕ) (c : List ℕ) where
  pub last-lt : length c ≡ p + w → AreBytes c → number_of (drop p c) < 256 ^ w
  last-lt n a =
      let l : length (drop p c) ≡ w = simp length-drop (omega arith) in rw l at (number_of-lt (drop p c) (below-drop 256 p c a))

  none : length c ≡ p + w → AreBytes c → jump_in p w c 0 ≡ c
  none n a =
      let l : length (drop p c) ≡ w = simp length-drop (omega arith) in
      rw (add-zero, mod-eq_of_lt (last-lt n a), rw l at (bytes_of-number_of (drop p c) (below-drop 256 p c a))) (take-append-drop p c)

  -- the number in them afterwards
  pub jump-last : p ≤ length c → (k : ℕ) → number_of (drop p (jump_in p w c k)) ≡ (number_of (drop p c) + k) % 256 ^ w
  jump-last h k = rw (drop_at (take p c) _ p (length-take-le p c h), number_of-bytes_of w) (mod-mod _ (256 ^ w))

  one_more : p ≤ length c → (k : ℕ) → jump_in p w (jump_in p w c 1) k ≡ jump_in p w c (suc k)
  one_more h k =
      let sum : number_of (drop p c) + 1 + k ≡ number_of (drop p c) + suc k = omega arith in
      rw (take_at (take p c) _ p (length-take-le p c h), jump-last h 1, mod-add-mod, sum)

pub no_jump : (c : List ℕ) → length c ≡ 16 → AreBytes c → ctr_jump c 0 ≡ c
unfolding ctr_jump
no_jump = none 0 16

pub jump_on : (c : List ℕ) (k : ℕ) → ctr_jump (ctr_next c) k ≡ ctr_jump c (suc k)
unfolding ctr_jump ctr_next
jump_on c k = one_more 0 16 c (omega arith) k

pub no_gcm-jump : (c : List ℕ) → length c ≡ 16 → AreBytes c → gcm_jump c 0 ≡ c
unfolding gcm_jump
no_gcm-jump = none 12 4

pub gcm-jump_on : (c : List ℕ) (k : ℕ) → length c ≡ 16 → gcm_jump (gcm_next c) k ≡ gcm_jump c (suc k)
unfolding gcm_jump gcm_next
gcm-jump_on c k n = one_more 12 4 c (omega arith) k
