-- The library's number of bytes is that of `block`.
use Rattle.journal.proofs.Names.{List, [], ◌∷◌, ◌≡◌, ◌≤◌, arith, get_or-take, number_of, take, word_at, ℕ}
use Rattle.std.specs.Int.{from_be_bytes, w16, w32}

pub number_of_2 : (a b : ℕ) → from_be_bytes w16 (a ∷ b ∷ []) ≡ number_of (a ∷ b ∷ [])
unfolding number_of
number_of_2 a b = omega arith

-- the word at the front of t, by bytes that were taken from there
pub word_taken : (n : ℕ) (m t : List ℕ) → m ≡ take n t → 4 ≤ n → from_be_bytes w32 m ≡ word_at t 0
unfolding number_of
word_taken n m t e k =
    rw (
      e,
      get_or-take n t 0 0 (omega arith),
      get_or-take n t 1 0 (omega arith),
      get_or-take n t 2 0 (omega arith),
      get_or-take n t 3 0 (omega arith),
    )
    (omega arith)
