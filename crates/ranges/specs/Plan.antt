-- A plan for several workers: which plans are accepted, and the plan that is made.
use Rattle.std.specs.Prelude.{ℕ, zero, suc, ◌+◌, ◌-◌, ◌*◌, ◌/◌, ◌%◌, Bool, true, false, not, ◌&&◌, ◌||◌, cond, List, [], ◌∷◌, Result, Ok, Err, eqb, leb, ltb, take, replicate}
use Rattle.counter.specs.CameRound.{blocks_of}
use Rattle.cipher_mode.specs.Tables.{limit}
use Rattle.ranges.specs.declared.plan.NotMade.{NotMade}
use Rattle.ranges.specs.declared.plan.NotMade.TheVariants.{BadWorkers, TooLong}
use Rattle.ranges.specs.declared.plan.Plan.{Plan}

abbrev pub is_last : List ℕ → Bool
is_last [] = true
is_last (s ∷ ss) = false

-- from byte `at` on the pieces follow one another to n, none is empty, and each length but the last divides by 16
unfoldable pub follows : ℕ → ℕ → List ℕ → List ℕ → Bool
follows at n [] lengths = eqb at n
follows at n (s ∷ ss) [] = false
follows at n (s ∷ ss) (l ∷ ls) =
    eqb s at && (not (eqb l 0) && ((is_last ss || eqb (l % 16) 0) && follows (at + l) n ss ls))

-- at most 64 pieces, and they follow one another from 0 to n
unfoldable pub accepts : Plan → ℕ → Bool
accepts p n = leb p.count 64 && follows 0 n (take p.count p.starts) (take p.count p.lengths)

-- what the check asks of one piece at byte `at`, where no more than `left` bytes are left
unfoldable pub is_piece : ℕ → ℕ → ℕ → ℕ → Bool → Bool
is_piece start size at left last = eqb start at && (not (eqb size 0) && (leb size left && (last || eqb (size % 16) 0)))

-- the blocks of n bytes shared among w workers, rounded up, in bytes
unfoldable pub piece_size : ℕ → ℕ → ℕ
piece_size n w = 16 * ((blocks_of n + (w - 1)) / w)

-- a place of a plan at byte `at`: a piece if that is before n, otherwise none, with zeros
abbrev pub begins : ℕ → ℕ → ℕ
begins n at = cond (ltb at n) 1 0

abbrev pub start_at : ℕ → ℕ → ℕ
start_at n at = cond (ltb at n) at 0

abbrev pub length_at : ℕ → ℕ → ℕ → ℕ
length_at n size at = cond (ltb size (n - at)) size (n - at)

-- k places from byte `at` on, each `size` bytes further: how many are pieces, where they start, and how long they are
unfoldable pub count_from : ℕ → ℕ → ℕ → ℕ → ℕ
count_from n size zero at = 0
count_from n size (suc k) at = begins n at + count_from n size k (at + size)

unfoldable pub starts_from : ℕ → ℕ → ℕ → ℕ → List ℕ
starts_from n size zero at = []
starts_from n size (suc k) at = start_at n at ∷ starts_from n size k (at + size)

unfoldable pub lengths_from : ℕ → ℕ → ℕ → ℕ → List ℕ
lengths_from n size zero at = []
lengths_from n size (suc k) at = length_at n size at ∷ lengths_from n size k (at + size)

-- n bytes in pieces of `size`, the last of what is left
abbrev pub plan_in : ℕ → ℕ → Plan
plan_in n size = record { count = count_from n size 64 0; starts = starts_from n size 64 0; lengths = lengths_from n size 64 0 }

-- n bytes for w workers
abbrev pub plan_of : ℕ → ℕ → Plan
plan_of n w = plan_in n (piece_size n w)

-- only zeros
abbrev pub no_pieces : Plan
no_pieces = record { count = 0; starts = replicate 64 0; lengths = replicate 64 0 }

-- what the planner answers: a number of workers outside 1 to 64 is told before a length past the limit
unfoldable pub planned : ℕ → ℕ → Result Plan NotMade
planned n w =
    cond (eqb w 0 || ltb 64 w) (Err BadWorkers)
    (cond (ltb limit n) (Err TooLong)
    (Ok (plan_of n w)))
