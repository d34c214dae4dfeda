-- One round trip for every mode that takes back, block by block, what another gave.
use Rattle.block.proofs.Base.{◌<◌, ◌≤◌, ℕ, ◌≡◌, List, ◌++◌, arith, drop, length, length-append}
use Rattle.block.proofs.Base.{take, take-append-drop, drop_at, length-take-le, take_at}
use Rattle.walk.specs.Walk.{Mode, chain}
use Rattle.walk.proofs.Chain.{Keeps, chain-rest, chain-block, by_blocks}

-- what it takes for w to take back what m gave
pub record Undoes (State Text : List ℕ → Type 0) (w m : Mode) : Type 0 where
  pub keeps : Keeps State Text m
  pub block : (s b : List ℕ) → State s → Text b → length b ≡ 16 → w.block s (m.block s b) ≡ b
  pub next : (s b : List ℕ) → State s → Text b → length b ≡ 16 → w.next s (m.block s b) ≡ m.next s b
  pub rest : (s d : List ℕ) → State s → Text d → length d < 16 → w.rest s (m.rest s d) ≡ d

module _ (State Text : List ℕ → Type 0) (w m : Mode) (u : Undoes State Text w m) where
  pub undo : (s d : List ℕ) → State s → Text d → chain w s (chain m s d) ≡ d
  undo = by_blocks (λ s d. State s → Text d → chain w s (chain m s d) ≡ d) m
      (λ s d q hs hd.
      let r : length (m.rest s d) < 16 = omega (arith, u.keeps.rest s d hs hd q) in
      rw (chain-rest m s d q, chain-rest w s (m.rest s d) r, u.rest s d hs hd q))
      (λ s d h i hs hd.
      let b = take 16 d in
      let B : length b ≡ 16 = length-take-le 16 d h in
      let f = u.keeps.front d hd h in
      let p = m.block s b in
      let P : length p ≡ 16 = u.keeps.block s b hs f B in
      let C = chain m (m.next s b) (drop 16 d) in
      let L : 16 ≤ length (p ++ C) = rw length-append (omega arith) in
      rw (chain-block m s d h, chain-block w s (p ++ C) L, take_at p C 16 P, drop_at p C 16 P, u.block s b hs f B, u.next s b hs f B)
      (rw (i (u.keeps.next s b hs f B) (u.keeps.back d hd h)) (take-append-drop 16 d)))
