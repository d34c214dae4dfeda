-- Six stages, from 32 down to 1, transpose.
use Rattle.block.proofs.Base.{◌%◌, ◌*◌, ◌+◌, ◌/◌, ◌<◌, ◌^◌, ◌≤◌, ℕ, ◌∙◌, ◌≡◌, ap₂, ⊎_elim, List, [], ◌∷◌, arith, lit<}
use Rattle.block.proofs.Base.{get_or-eq_default, get_or}
use Rattle.lanes.specs.Bits.{bit}
use Rattle.lanes.proofs.Bits.{lt-or-le}
use Rattle.rows.specs.Transposed.{Staged, at, Turned}
use Rattle.lanes.proofs.Stages.{masks, digs, by_none, by_stage, same_at}
use Rattle.rows.proofs.Digits.{rows, step}

-- once all six digits are changed, so are the numbers: one test over all pairs
all_digits : (r c : ℕ) → r < 64 → c < 64 → digs (1 ∷ 2 ∷ 4 ∷ 8 ∷ 16 ∷ 32 ∷ []) r c ≡ c
all_digits = same_at 64 (digs (1 ∷ 2 ∷ 4 ∷ 8 ∷ 16 ∷ 32 ∷ [])) (λ r c. c) tt

pub six : (a b c d e f g : List ℕ)
    → Staged 32 0x00000000ffffffff 256 1 a b → Staged 16 0x0000ffff0000ffff 128 2 b c → Staged 8 0x00ff00ff00ff00ff 64 4 c d
    → Staged 4 0x0f0f0f0f0f0f0f0f 32 8 d e → Staged 2 0x3333333333333333 16 16 e f → Staged 1 0x5555555555555555 8 32 f g → Turned a g
unfolding at
six a b c d e f g hb hc hd he hf hg j r s hj hr hs =
    let first = by_stage masks.5 (lit< tt) (omega arith) (step (omega arith) hb j hj) (by_none 64 (rows a j)) in
    let second = by_stage masks.4 (lit< tt) (omega arith) (step (omega arith) hc j hj) first in
    let third = by_stage masks.3 (lit< tt) (omega arith) (step (omega arith) hd j hj) second in
    let fourth = by_stage masks.2 (lit< tt) (omega arith) (step (omega arith) he j hj) third in
    let fifth = by_stage masks.1 (lit< tt) (omega arith) (step (omega arith) hf j hj) fourth in
    let sixth = by_stage masks.0 (lit< tt) (omega arith) (step (omega arith) hg j hj) fifth in
    sixth.turned r s hr hs ∙ ap₂ (λ (u v : ℕ). bit v (rows a j u)) (all_digits r s hr hs) (all_digits s r hs hr)

-- the last stage has stored every word
pub all_small : (d m : ℕ) (a₀ a : List ℕ) → Staged d m 8 32 a₀ a → (p : ℕ) → get_or a p 0 < 2 ^ 64
all_small d m a₀ a S p =
    ⊎_elim (λ (h : p < 512).
    let P = S.pairs (p / 16) (p % 8) (omega arith) (omega arith) in
    ⊎_elim (λ (g : p % 16 < 8). let e : p ≡ 2 * 8 * (p / 16) + p % 8 = omega arith in rw e P.first_small)
    (λ (g : 8 ≤ p % 16). let e : p ≡ 2 * 8 * (p / 16) + p % 8 + 8 = omega arith in rw e P.second-small) (lt-or-le (p % 16) 8))
    (λ (h : 512 ≤ p). let n = S.size in rw (get_or-eq_default a 0 {n = p} (omega arith)) (lit< tt)) (lt-or-le p 512)
