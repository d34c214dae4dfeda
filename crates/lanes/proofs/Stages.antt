-- Stages of swaps, one after the other: each changes one binary digit of a word's number with that of a bit's number.
use Rattle.block.proofs.Base.{◌%◌, ◌*◌, ◌+◌, ◌-◌, ◌/◌, ◌<◌, ℕ, ◌∙◌, ◌≡◌, refl, List, [], ◌∷◌, arith, T, eqb, eqb→eq, length}
use Rattle.block.proofs.Base.{length-replicate, replicate}
use Rattle.block.proofs.Table.{rule_at, passes}
use Rattle.lanes.specs.Bits.{bit}
use Rattle.lanes.proofs.Swaps.{digit, dig, MaskOf, Step, swapped}

mask-of : (d m : ℕ) → T (passes (λ k x. eqb (bit k m) (1 - digit d k)) 0 (replicate 64 0)) → MaskOf d m
mask-of d m t c h = eqb→eq _ _ (rule_at (λ k x. eqb (bit k m) (1 - digit d k)) (replicate 64 0) t c h)

-- the masks of the six distances
pub masks : MaskOf 1 0x5555555555555555 × MaskOf 2 0x3333333333333333 × MaskOf 4 0x0f0f0f0f0f0f0f0f
    × MaskOf 8 0x00ff00ff00ff00ff × MaskOf 16 0x0000ffff0000ffff × MaskOf 32 0x00000000ffffffff
unfolding bit
masks = (
  mask-of 1 0x5555555555555555 tt,
  mask-of 2 0x3333333333333333 tt,
  mask-of 4 0x0f0f0f0f0f0f0f0f tt,
  mask-of 8 0x00ff00ff00ff00ff tt,
  mask-of 16 0x0000ffff0000ffff tt,
  mask-of 32 0x00000000ffffffff tt,
)

-- the digits ds of two numbers, changed one after the other
abbrev pub digs : List ℕ → ℕ → ℕ → ℕ
digs [] r c = r
digs (d ∷ ds) r c = digs ds (dig d r c) (dig d c r)

-- g are the n words f once the digits ds are changed
pub record By (n : ℕ) (ds : List ℕ) (f g : ℕ → ℕ) : Type 0 where
  pub turned : (r c : ℕ) → r < n → c < 64 → bit c (g r) ≡ bit (digs ds c r) (f (digs ds r c))

pub by_none : (n : ℕ) (f : ℕ → ℕ) → By n [] f f
by_none n f = record { turned = λ r c hr hc. refl }

pub by_stage : {d m n : ℕ} {ds : List ℕ} {f g h : ℕ → ℕ} → MaskOf d m → 0 < d
    → ((r c : ℕ) → r < n → c < 64 → (dig d r c < n) × (dig d c r < 64)) → Step d m n g h → By n ds f g → By n (d ∷ ds) f h
by_stage {d} {m} {n} {ds} {f} {g} {h} M hd W S B = record {
  turned = λ r c hr hc. let w = W r c hr hc in swapped d m n hd M g h S r c hr hc ∙ B.turned _ _ w.0 w.1;
}

-- two functions that a test over all pairs finds the same
pub same_at : (n : ℕ) (f g : ℕ → ℕ → ℕ) → T (passes (λ i x. eqb (f (i / 64) (i % 64)) (g (i / 64) (i % 64))) 0 (replicate (n * 64) 0))
    → (r c : ℕ) → r < n → c < 64 → f r c ≡ g r c
same_at n f g t r c hr hc =
    let i = r * 64 + c in
    let u : i / 64 ≡ r = omega arith in
    let v : i % 64 ≡ c = omega arith in
    let l : i < length {A = ℕ} (replicate (n * 64) 0) = rw length-replicate (omega arith) in
    let e : f (i / 64) (i % 64) ≡ g (i / 64) (i % 64) =
    eqb→eq _ _ (rule_at (λ i x. eqb (f (i / 64) (i % 64)) (g (i / 64) (i % 64))) (replicate (n * 64) 0) t i l) in
    rw (u, v) at e
