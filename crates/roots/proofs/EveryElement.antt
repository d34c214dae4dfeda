-- What every element of the field has is had by more than n elements, for each n below 2^128: the numbers up to n are that many.
use Rattle.block.proofs.Base.{◌-◌, ◌<◌, ◌^◌, ◌≤◌, suc, zero, ℕ, ◌≡◌, ap, refl, ⊎_elim, List, Mem, Nodup, PairwiseCons}
use Rattle.block.proofs.Base.{PairwiseNil, [], ◌∷◌, mem_of_ne_of_mem, not-mem-nil, eq-zero-or-pos, lt_of_lt_of_le, arith, length}
use Rattle.roots.specs.AtMost.{Having, AtMost}

numbers_to : ℕ → List ℕ
numbers_to zero = []
numbers_to (suc n) = n ∷ numbers_to n

numbers_to_length : (n : ℕ) → length (numbers_to n) ≡ n
unfolding numbers_to
numbers_to_length zero = refl
numbers_to_length (suc n) = ap suc (numbers_to_length n)

numbers_to_lt : (n h : ℕ) → Mem h (numbers_to n) → h < n
unfolding numbers_to
numbers_to_lt zero h m = absurd (not-mem-nil m)
numbers_to_lt (suc n) h m =
    ⊎_elim (λ z. omega (arith, z))
    (λ p. let k = numbers_to_lt n h (mem_of_ne_of_mem (λ e. omega (arith, p, e)) m) in omega arith)
    (eq-zero-or-pos (h - n))

numbers_to_different : (n : ℕ) → Nodup (numbers_to n)
unfolding numbers_to
numbers_to_different zero = PairwiseNil
numbers_to_different (suc n) =
    PairwiseCons {a = n} {l = numbers_to n} (λ h m e. omega (arith, numbers_to_lt n h m, e)) (numbers_to_different n)

pub more_have : (P : ℕ → Type 0) → ((h : ℕ) → P h) → (n : ℕ) → n < 2 ^ 128 → ¬ AtMost n P
more_have P all n l few =
    let g : Having P (numbers_to (suc n)) =
    record { different = numbers_to_different (suc n); each = λ h m. (lt_of_lt_of_le (numbers_to_lt (suc n) h m) l, all h) } in
    let k : suc n ≤ n = rw numbers_to_length at (few (numbers_to (suc n)) g) in
    omega arith
