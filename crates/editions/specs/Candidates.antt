-- Candidate labels, lent one after another in one buffer with their lengths beside it.
use Rattle.std.specs.Prelude.{ℕ, ◌+◌, Bool, false, not, ◌||◌, List, [], ◌∷◌, eqb, ltb, length, get_or, take, drop}
use Rattle.cipher_mode.specs.Tables.{limit}

unfoldable pub sum : List ℕ → ℕ
sum [] = 0
sum (n ∷ ns) = n + sum ns

-- more than 64 candidates, or lengths that do not add up to the buffer
unfoldable pub bad_list : List ℕ → List ℕ → Bool
bad_list labels lengths = ltb 64 (length lengths) || not (eqb (sum lengths) (length labels))

-- one label past the limit is enough
unfoldable pub any_too_long : List ℕ → Bool
any_too_long [] = false
any_too_long (n ∷ ns) = ltb limit n || any_too_long ns

-- candidate i, counted from 0
unfoldable pub label_at : List ℕ → List ℕ → ℕ → List ℕ
label_at labels lengths i = take (get_or lengths i 0) (drop (sum (take i lengths)) labels)
