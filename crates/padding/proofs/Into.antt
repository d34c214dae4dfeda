-- Opening a decrypted text into an output: the message is written over its front, and nothing else.
use Rattle.block.proofs.Base.{◌≤◌, ℕ, ◌≡◌, refl, List, arith, drop, length, take, drop_at, length-take-le}
use Rattle.block.specs.Over.{over}
use Rattle.padding.specs.Padding.{unpadded, kept, opened_into}
use Rattle.std.specs.Prelude.{Result, Ok, Err}
use Rattle.padding.specs.declared.BadPadding.{BadPadding}
use Rattle.padding.proofs.Unpadded.{unpadded-le}

-- what is decided tells what is written
pub into : (p o : List ℕ) (a : Result ℕ BadPadding) → unpadded p ≡ a → opened_into p o ≡ over (take (kept a) p) o
unfolding opened_into
into p o a e = rw e

kept_by : (p : List ℕ) (a : Result ℕ BadPadding) → unpadded p ≡ a → kept a ≤ length p
kept_by p (Ok n) e = unpadded-le p n e
kept_by p (Err b) e = omega arith

-- the bytes past the message are as they were lent, and of a refusal all are
pub past_the_message : (p o : List ℕ) → drop (kept (unpadded p)) (opened_into p o) ≡ drop (kept (unpadded p)) o
unfolding opened_into
past_the_message p o =
    let k = kept (unpadded p) in
    let n : length (take k p) ≡ k = length-take-le k p (kept_by p (unpadded p) refl) in
    rw n (drop_at (take k p) (drop k o) k n)
