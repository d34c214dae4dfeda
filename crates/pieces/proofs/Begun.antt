-- The full blocks of a text and what is begun behind them, also where the text goes on.
use Rattle.pieces.proofs.Names.{List, ◌%◌, ◌*◌, ◌++◌, ◌+◌, ◌-◌, ◌/◌, ◌∙◌, ◌≡◌, ◌≤◌, ap, append_assoc, arith, begun_part, drop}
use Rattle.pieces.proofs.Names.{drop-append-add, full_part, length, length-append, length-drop, length-take-le, sym, take}
use Rattle.pieces.proofs.Names.{take-append-add, take-append-drop, ℕ}

pub full_length : (c : List ℕ) → length (full_part c) ≡ 16 * (length c / 16)
full_length c = length-take-le (16 * (length c / 16)) c (omega arith)

pub begun-length : (c : List ℕ) → length (begun_part c) ≡ length c % 16
begun-length c = rw length-drop (omega arith)

pub both-parts : (c : List ℕ) → full_part c ++ begun_part c ≡ c
both-parts c = take-append-drop (16 * (length c / 16)) c

-- and a text behind
pub parts-behind : (c e : List ℕ) → c ++ e ≡ full_part c ++ (begun_part c ++ e)
parts-behind c e = ap (λ (l : List ℕ). l ++ e) (sym (both-parts c)) ∙ append_assoc (full_part c) (begun_part c) e

-- a cut of a ++ x behind a, and a cut behind full blocks a
module _ (a x : List ℕ) where
  pub take_through : (n : ℕ) → length a ≤ n → take n (a ++ x) ≡ a ++ take (n - length a) x
  take_through n h = let k : length a + (n - length a) ≡ n = omega arith in rw k at (take-append-add a x (n - length a))

  pub drop_through : (n : ℕ) → length a ≤ n → drop n (a ++ x) ≡ drop (n - length a) x
  drop_through n h = let k : length a + (n - length a) ≡ n = omega arith in rw k at (drop-append-add a x (n - length a))

  module _ (k : ℕ) (n : length a ≡ 16 * k) where
    seam : 16 * (length (a ++ x) / 16) ≡ length a + 16 * (length x / 16)
    seam = rw length-append (omega arith)

    pub full_behind : full_part (a ++ x) ≡ a ++ full_part x
    full_behind = rw seam (take-append-add a x (16 * (length x / 16)))

    pub begun-behind : begun_part (a ++ x) ≡ begun_part x
    begun-behind = rw seam (drop-append-add a x (16 * (length x / 16)))
