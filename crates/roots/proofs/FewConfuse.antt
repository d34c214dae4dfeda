-- Two different pairs of label and ciphertext have one hash under no more H than the longer has blocks: with blocks of zeros in
-- front of the shorter they are two lists of one length that differ, and their hashes are what they were.
use Rattle.block.proofs.Base.{◌-◌, ◌≤◌, max, ℕ, ◌∙◌, ◌≡◌, sym, ◌≢◌, le-max_left, le-max_right, length}
use Rattle.ghash.specs.Ghash.{ghash}
use Rattle.ghash.proofs.ZeroKey.{ghash-zero-key}
use Rattle.roots.specs.AtMost.{AtMost}
use Rattle.roots.specs.Confused.{Pair, Sound, hashed, hashed_count, pair_hash, Confuses}
use Rattle.roots.proofs.OneHash.{having_too, few-agree, zeros-hash}
use Rattle.roots.proofs.Told.{filled, filled-length, filled_elements, told}

filled-hash : (h n : ℕ) (p : Pair) → ghash h (filled n p) ≡ ghash h (hashed p)
unfolding filled
filled-hash h n p = zeros-hash h (n - hashed_count p) (hashed p)

pub few_confuse : (p q : Pair) → Sound p → Sound q → p ≢ q → AtMost (max (hashed_count p) (hashed_count q)) (Confuses pair_hash p q)
few_confuse p q sp sq ne hs g =
    let n = max (hashed_count p) (hashed_count q) in
    let lp : hashed_count p ≤ n = le-max_left (hashed_count p) (hashed_count q) in
    let lq : hashed_count q ≤ n = le-max_right (hashed_count p) (hashed_count q) in
    let long : length (filled n p) ≡ length (filled n q) = filled-length n p lp ∙ sym (filled-length n q lq) in
    let few =
    few-agree (filled n p) (filled n q) long (filled_elements n p sp) (filled_elements n q sq) (λ e. ne (told n p q sp sq e)) hs
    (having_too _ _ hs (λ h e. filled-hash h n p ∙ e ∙ sym (filled-hash h n q)) g) in
    rw (filled-length n p lp) at few

-- 0 is always one of them: every hash is 0 there
pub zero_confuses : (p q : Pair) → Confuses pair_hash p q 0
zero_confuses p q = ghash-zero-key (hashed p) ∙ sym (ghash-zero-key (hashed q))
