-- The padding: it fills the last block, wherever full blocks were cut off before.
use Rattle.block.proofs.Base.{◌%◌, ◌*◌, ◌+◌, ◌-◌, ◌/◌, ◌<◌, ◌≤◌, ℕ, ◌∙◌, ◌≡◌, List, arith, drop, length, length-append}
use Rattle.block.proofs.Base.{length-drop, length-replicate, take, drop-append-le}
use Rattle.block.proofs.Tails.{tailed, tail_is}
use Rattle.padding.specs.Padding.{padding, padded}

pub length-padded : (d : List ℕ) → length (padded d) ≡ 16 * (length d / 16 + 1)
length-padded d = length-append d (padding (length d)) ∙ rw (length-replicate (16 - length d % 16) (16 - length d % 16)) (omega arith)

-- the last block of the padded message is the padded rest
pub rest-padded : (d : List ℕ) (at : ℕ) → at ≤ length d → at % 16 ≡ 0 → length d < at + 16
    → take 16 (padded (tailed at d)) ≡ take 16 (drop at (padded d))
rest-padded d at h m l =
    let n : length (drop at d) % 16 ≡ length d % 16 = rw length-drop (omega arith) in
    rw (tail_is d at, drop-append-le at d (padding (length d)) h, n)
