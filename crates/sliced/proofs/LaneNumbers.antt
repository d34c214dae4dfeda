-- The plane of lane numbers: six rows that are the same in every column, three that are all ones or zero, and zeros.
use Rattle.sliced.proofs.Names.{Blank, Held, List, [], ◌%◌, ◌*◌, ◌+◌, ◌-◌, ◌/◌, ◌<◌, ◌^◌, ◌∙◌, ◌∷◌, ◌≡◌, ◌≤◌, ap, ap₂, arith, bit}
use Rattle.sliced.proofs.Names.{bit_high, bit-low, bit_past, bit-zero, get_or, get_or-set_other, lane, length, lt-or-le}
use Rattle.sliced.proofs.Names.{number_at, place, same_at, set, sym, ℕ, ⊎_elim}
use Rattle.sliced.proofs.Held.{lane_held, held_next}

-- the six rows: bit k of row q is bit q of k
abbrev patterns : List ℕ
patterns =
    0xaaaaaaaaaaaaaaaa ∷ 0xcccccccccccccccc ∷ 0xf0f0f0f0f0f0f0f0 ∷ 0xff00ff00ff00ff00 ∷ 0xffff0000ffff0000 ∷ 0xffffffff00000000 ∷ []

pattern_bit : (q k : ℕ) → q < 6 → k < 64 → bit k (get_or patterns q 0) ≡ bit q k
unfolding bit
pattern_bit = same_at 6 (λ q k. bit k (get_or patterns q 0)) bit tt

in_parts : (p k : ℕ) → p % 8 * 2 ^ 6 + k ≡ number_at (8 * k + p % 8)
in_parts p k = omega arith

pub low_rows : (p : ℕ) → p < 48 → (k : ℕ) → k < 64 → bit k (get_or patterns (p / 8) 0) ≡ bit (p / 8) (number_at (8 * k + p % 8))
low_rows p hp k hk =
    pattern_bit (p / 8) k (omega arith) hk ∙ sym (bit-low 6 (p / 8) (p % 8) k (omega arith) (omega arith)) ∙ ap (bit (p / 8)) (in_parts p k)

pub high_rows : (p r : ℕ) → 48 ≤ p → ((k : ℕ) → k < 64 → bit k r ≡ bit (p / 8 - 6) (p % 8))
    → (k : ℕ) → k < 64 → bit k r ≡ bit (p / 8) (number_at (8 * k + p % 8))
high_rows p r hp h k hk =
    let e : 6 + (p / 8 - 6) ≡ p / 8 = omega arith in
    h k hk ∙ sym (bit_high 6 (p / 8 - 6) (p % 8) k (omega arith)) ∙ ap₂ bit e (in_parts p k)

-- the first p words hold the lanes' numbers, the others nothing
abbrev pub Numbered : ℕ → List ℕ → Type 0
Numbered p x = Held number_at 8 p x × ((q : ℕ) → p ≤ q → get_or x q 0 ≡ 0)

pub numbered-first : (x : List ℕ) → Blank x → Numbered 0 x
numbered-first x h = (λ q k hq hc hk. absurd (omega arith), λ q g. h q)

pub numbered_next : (p v : ℕ) (x : List ℕ) → p < 256 → length x ≡ 256 → ((k : ℕ) → k < 64 → bit k v ≡ bit (p / 8) (number_at (8 * k + p % 8)))
    → Numbered p x → Numbered (p + 1) (set x p v)
numbered_next p v x hp l hv N =
    let next = held_next number_at 8 p v x (omega arith)
    (λ k hc hk. let r : p / 8 ≡ p / 8 % 32 = omega arith in hv k hk ∙ ap (λ (z : ℕ). bit z (number_at (8 * k + p % 8))) r) N.0 in
    (next, λ q h. get_or-set_other x p q v 0 (λ e. omega arith) ∙ N.1 q (omega arith))

-- the rows that are left hold nothing
pub numbered-last : (x : List ℕ) (p : ℕ) → 72 ≤ p → Numbered p x → (e : ℕ) → e < 512 → lane x e ≡ number_at e
numbered-last x p hp N e he =
    lane_held number_at 8 x
    (λ q k hq hc hk.
    ⊎_elim (λ (g : q < p). N.0 q k g hc hk)
    (λ (g : p ≤ q).
    let small : number_at (8 * k + q % 8) < 2 ^ 9 = omega arith in
    ap (bit k) (N.1 q g) ∙ bit-zero k ∙ sym (bit_past 9 (q / 8 % 32) (number_at (8 * k + q % 8)) small (omega arith))) (lt-or-le q p))
    e he (omega arith) (omega arith)

-- the lane of block i
pub number-place : (i : ℕ) → i < 512 → (place i < 512) × (number_at (place i) ≡ i)
number-place i h = (omega arith, omega arith)
