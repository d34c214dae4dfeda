-- The shares of a plan, each done by a worker of its own, in any order.
use Rattle.std.specs.Prelude.{ℕ, ◌+◌, length, take, drop}
use mathlib.Core.List.{List, [], ◌∷◌, ◌++◌, foldr}
use Rattle.ranges.specs.declared.plan.Plan.{Plan}
use Rattle.ranges.specs.Range.{stretch}

-- a worker's share of a text: the byte where it starts, and how many bytes it has
pub record Share : Type 0 where
  pub start : ℕ
  pub size : ℕ

abbrev pub shares : List ℕ → List ℕ → List Share
shares [] lengths = []
shares (s ∷ ss) [] = []
shares (s ∷ ss) (l ∷ ls) = record { start = s; size = l } ∷ shares ss ls

-- the shares of a plan, as it lists them
abbrev pub shares_of : Plan → List Share
shares_of p = shares (take p.count p.starts) (take p.count p.lengths)

-- the part of a text that is a share
abbrev pub share_of : Share → List ℕ → List ℕ
share_of p l = take p.size (drop p.start l)

-- an output with the bytes s laid into it from byte `at` on
abbrev pub laid_at : ℕ → List ℕ → List ℕ → List ℕ
laid_at at s o = take at o ++ (s ++ drop (at + length s) o)

-- the output o after the worker of a share: what Ctr gives of that stretch of the text d stands at the share's own place
abbrev pub worked : List ℕ → List ℕ → List ℕ → Share → List ℕ → List ℕ
worked rk iv d p o = laid_at p.start (stretch rk iv p.start (share_of p d)) o

-- and after all workers, one after the other: the last of the list is the first to work
abbrev pub all_worked : List ℕ → List ℕ → List ℕ → List Share → List ℕ → List ℕ
all_worked rk iv d ps o = foldr (worked rk iv d) o ps

-- a text after a range that was applied to it: what Ctr gives of the range stands in its place
abbrev pub applied : List ℕ → List ℕ → Share → List ℕ → List ℕ
applied rk iv p t = worked rk iv t p t
