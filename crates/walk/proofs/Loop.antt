-- Where no full block is left: what a walk's loop ends in and leaves.
use Rattle.block.proofs.Base.{◌+◌, ◌<◌, ℕ, ◌∙◌, ◌≡◌, sym, List, [], ◌++◌, arith, drop, length, length-drop, take, take-append-drop}
use Rattle.block.specs.Over.{over}
use Rattle.block.proofs.Tails.{tailed, returned, tail_is, returned_is}
use Rattle.walk.specs.Walk.{Mode, chain, end_state}
use Rattle.walk.proofs.Chain.{chain-rest}
use Rattle.walk.proofs.Cut.{end_rest}

-- what stands in the output o at the end, if the walk goes on at `at` from the state s
abbrev onward : Mode → List ℕ → List ℕ → List ℕ → ℕ → List ℕ
onward m s d o at = take at o ++ over (chain m s (drop at d)) (drop at o)

-- the walk ends in the state that it is in
pub last-state : (m : Mode) (s d : List ℕ) (at : ℕ) → length d < at + 16 → s ≡ end_state m s (drop at d)
last-state m s d at h = sym (end_rest m s (drop at d) (rw length-drop (omega arith)))

-- the loop writes what the rest gives
pub rest-written : (m : Mode) (s d o t : List ℕ) (at : ℕ) → length d < at + 16 → t ≡ over (m.rest s (tailed at d)) (tailed at o)
    → returned at o t ≡ onward m s d o at
rest-written m s d o t at h f =
    let k : length (drop at d) < 16 = rw length-drop (omega arith) in
    let g : t ≡ over (m.rest s (drop at d)) (drop at o) = f ∙ rw (tail_is d at, tail_is o at) in
    returned_is o t at ∙ rw (g, chain-rest m s (drop at d) k)

-- the rest gives nothing
pub nothing_left : (m : Mode) (s d o : List ℕ) (at : ℕ) → length d < at + 16 → m.rest s (drop at d) ≡ [] → o ≡ onward m s d o at
nothing_left m s d o at h e =
    let k : length (drop at d) < 16 = rw length-drop (omega arith) in
    sym (rw (chain-rest m s (drop at d) k, e, take-append-drop))
