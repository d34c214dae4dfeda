-- The differences that `all_padding` adds up come to 0 exactly where the last n bytes of a block all hold n.
use Rattle.block.proofs.Base.{◌*◌, ◌+◌, ◌-◌, ◌/◌, ◌<◌, ◌^◌, ◌≤◌, suc, zero, ℕ, ◌∙◌, ◌≡◌, refl, sym, ◌&&◌, List, [], ◌∷◌, add-one, arith}
use Rattle.block.proofs.Base.{eq-eqb, eqb-true, xor_lt, xor_self, eqb, drop, get_or, length, length-drop, replicate, drop-cons}
use lib.Seq.{drop-length}
use Rattle.block.specs.Same.{same}
use Rattle.block.specs.Xor.{◌⊕◌}
use Rattle.block.proofs.Same.{and_left, and_right, test_iff}
use Rattle.block.proofs.Xor.{xor_same}

-- what the byte x at the place i adds, where the last n of sixteen bytes count
abbrev pub difference : ℕ → ℕ → ℕ → ℕ
difference n i x = (i + n) / 16 * (x ⊕ n)

-- what the bytes from the place i on add
unfoldable pub differences : ℕ → ℕ → List ℕ → ℕ
differences n i [] = 0
differences n i (x ∷ l) = difference n i x + differences n (suc i) l

times-le : (q y : ℕ) → q ≤ 1 → q * y ≤ y
times-le zero y h = omega arith
times-le (suc zero) y h = omega arith
times-le (suc (suc q)) y h = absurd (omega arith)

pub difference_le : (n i x : ℕ) → n ≤ 16 → i < 16 → x < 256 → difference n i x ≤ 255
difference_le n i x hn hi hx =
    let s : (x ⊕ n) < 2 ^ 8 = xor_lt 8 x n hx (omega arith) in
    omega (arith, times-le ((i + n) / 16) (x ⊕ n) (omega arith))

-- a turn adds the first of what is left
pub difference_turn : (n i : ℕ) (l : List ℕ) → i < length l
    → difference n i (get_or l i 0) + differences n (i + 1) (drop (i + 1) l) ≡ differences n i (drop i l)
unfolding differences
difference_turn n i l h = rw (add-one, drop-cons l i 0)

pub none_left : (n : ℕ) (l : List ℕ) → differences n (length l) (drop (length l) l) ≡ 0
unfolding differences
none_left n l = rw drop-length

-- the bytes before the last n add nothing
none_before : (n i k : ℕ) (l : List ℕ) → i + k + n ≡ 16 → differences n i l ≡ differences n (i + k) (drop k l)
unfolding differences
none_before n i zero l h = let e : i + 0 ≡ i = omega arith in rw e
none_before n i (suc k) [] h = refl
none_before n i (suc k) (x ∷ l) h =
    let q : (i + n) / 16 ≡ 0 = omega arith in
    let e : i + suc k ≡ suc i + k = omega arith in
    let z : difference n i x + differences n (suc i) l ≡ differences n (suc i) l = rw q (omega arith) in
    rw (z, e) (none_before n (suc i) k l (omega arith))

xor_test : (x n : ℕ) → eqb (x ⊕ n) 0 ≡ eqb x n
xor_test x n =
    test_iff (eqb (x ⊕ n) 0) (eqb x n) (λ e. eq-eqb x n (xor_same x n n (eqb-true (x ⊕ n) 0 e ∙ sym (xor_self n))))
    (λ e. eq-eqb (x ⊕ n) 0 (rw (eqb-true x n e) (xor_self n)))

sum_test : (a b : ℕ) → eqb (a + b) 0 ≡ (eqb a 0 && eqb b 0)
sum_test a b =
    test_iff (eqb (a + b) 0) (eqb a 0 && eqb b 0)
    (λ e. let z = eqb-true (a + b) 0 e in rw (eq-eqb a 0 (omega arith), eq-eqb b 0 (omega arith)))
    (λ e.
    let x = eqb-true a 0 (and_left (eqb a 0) (eqb b 0) e) in
    let y = eqb-true b 0 (and_right (eqb a 0) (eqb b 0) e) in
    eq-eqb (a + b) 0 (omega arith))

-- each of the last n adds its difference to n
all_hold : (n i : ℕ) (l : List ℕ) → n ≤ 16 → 16 ≤ i + n → i + length l ≡ 16 → eqb (differences n i l) 0 ≡ same l (replicate (length l) n)
unfolding differences same
all_hold n i [] hn hi hl = refl
all_hold n i (x ∷ l) hn hi hl =
    let q : difference n i x ≡ x ⊕ n = let o : (i + n) / 16 ≡ 1 = omega arith in rw o (omega arith) in
    rw (q, sum_test (x ⊕ n) (differences n (suc i) l), xor_test x n, all_hold n (suc i) l hn (omega arith) (omega arith))

pub padding_test : (n : ℕ) (l : List ℕ) → n ≤ 16 → length l ≡ 16 → eqb (differences n 0 l) 0 ≡ same (drop (16 - n) l) (replicate n n)
padding_test n l hn hl =
    let k = 16 - n in
    let m : length (drop k l) ≡ n = rw length-drop (omega arith) in
    let z : 0 + k ≡ k = omega arith in
    rw (none_before n 0 k l (omega arith), z) (rw m at (all_hold n k (drop k l) hn (omega arith) (rw length-drop (omega arith))))
