-- The twelve swaps are the three stages, and these transpose.
use Rattle.sixteen.proofs.Names.{List, [], ◌∷◌, ◌≡◌, ℕ}
use Rattle.sixteen.proofs.Stages.{stage, three}
use Rattle.sixteen.proofs.rounds.transpose.Goals as goal

pub returns : goal.returns
returns c =
    let w = c.args.w in
    let a : List ℕ =
    c.swapped-a0.result.0 ∷ c.swapped-a0.result.1 ∷ c.swapped-a2.result.0 ∷ c.swapped-a2.result.1
    ∷ c.swapped-a4.result.0 ∷ c.swapped-a4.result.1 ∷ c.swapped-a6.result.0 ∷ c.swapped-a6.result.1 ∷ [] in
    let b : List ℕ =
    c.swapped-b0.result.0 ∷ c.swapped-b1.result.0 ∷ c.swapped-b0.result.1 ∷ c.swapped-b1.result.1
    ∷ c.swapped-b4.result.0 ∷ c.swapped-b5.result.0 ∷ c.swapped-b4.result.1 ∷ c.swapped-b5.result.1 ∷ [] in
    let r : List ℕ =
    c.swapped-c0.result.0 ∷ c.swapped-c1.result.0 ∷ c.swapped-c2.result.0 ∷ c.swapped-c3.result.0
    ∷ c.swapped-c0.result.1 ∷ c.swapped-c1.result.1 ∷ c.swapped-c2.result.1 ∷ c.swapped-c3.result.1 ∷ [] in
    let first : a ≡ stage 1 0x5555555555555555 w = cc (c.swapped-a0.ensures.first, c.swapped-a0.ensures.second, c.swapped-a2.ensures.first, c.swapped-a2.ensures.second, c.swapped-a4.ensures.first, c.swapped-a4.ensures.second, c.swapped-a6.ensures.first, c.swapped-a6.ensures.second) in
    let second : b ≡ stage 2 0x3333333333333333 a = cc (c.swapped-b0.ensures.first, c.swapped-b0.ensures.second, c.swapped-b1.ensures.first, c.swapped-b1.ensures.second, c.swapped-b4.ensures.first, c.swapped-b4.ensures.second, c.swapped-b5.ensures.first, c.swapped-b5.ensures.second) in
    three w a b r first second (cc (c.swapped-c0.ensures.first, c.swapped-c0.ensures.second, c.swapped-c1.ensures.first, c.swapped-c1.ensures.second, c.swapped-c2.ensures.first, c.swapped-c2.ensures.second, c.swapped-c3.ensures.first, c.swapped-c3.ensures.second))
