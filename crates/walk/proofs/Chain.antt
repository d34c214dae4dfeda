-- The walk, block by block: what a message gives begins with what its first block gives, or is what its short rest gives.
-- With the lengths and the bytes that a mode keeps.
use Rattle.block.proofs.Base.{◌/◌, ◌<◌, ◌≤◌, suc, zero, ℕ, ◌≡◌, refl, List, ◌++◌, arith, drop, length, length-append, length-drop}
use Rattle.block.proofs.Base.{take, length-take-le}
use Rattle.block.specs.Below.{AreBytes}
use Rattle.block.proofs.Entries.{below-take, below-drop, below-append}
use Rattle.walk.specs.Walk.{Mode, walk, chain}

pub chain-rest : (m : Mode) (s d : List ℕ) → length d < 16 → chain m s d ≡ m.rest s d
unfolding chain walk
chain-rest m s d h = let e : length d / 16 ≡ 0 = omega arith in rw e

pub chain-block : (m : Mode) (s d : List ℕ) → 16 ≤ length d
    → chain m s d ≡ m.block s (take 16 d) ++ chain m (m.next s (take 16 d)) (drop 16 d)
unfolding chain walk
chain-block m s d h =
    let e : length d / 16 ≡ suc (length (drop 16 d) / 16) = rw length-drop (omega arith) in
    rw e

-- what holds of a rest, and of a message if it holds of what is behind its first block, holds of every message
pub by_blocks : (P : List ℕ → List ℕ → Type 0) (m : Mode) → ((s d : List ℕ) → length d < 16 → P s d)
    → ((s d : List ℕ) → 16 ≤ length d → P (m.next s (take 16 d)) (drop 16 d) → P s d) → (s d : List ℕ) → P s d
by_blocks P m rest on s d = go (length d / 16) s d refl where
  go : (n : ℕ) (s d : List ℕ) → length d / 16 ≡ n → P s d
  go zero s d e = rest s d (omega arith)
  go (suc n) s d e = on s d (omega arith) (go n (m.next s (take 16 d)) (drop 16 d) (rw length-drop (omega arith)))

-- every state, or every message
abbrev pub Any : List ℕ → Type 0
Any s = Unit {0}

-- what it takes for a mode to give as many bytes as it gets, in the states and on the messages that are meant
pub record Keeps (State Text : List ℕ → Type 0) (m : Mode) : Type 0 where
  pub front : (d : List ℕ) → Text d → 16 ≤ length d → Text (take 16 d)
  pub back : (d : List ℕ) → Text d → 16 ≤ length d → Text (drop 16 d)
  pub next : (s b : List ℕ) → State s → Text b → length b ≡ 16 → State (m.next s b)
  pub block : (s b : List ℕ) → State s → Text b → length b ≡ 16 → length (m.block s b) ≡ 16
  pub rest : (s d : List ℕ) → State s → Text d → length d < 16 → length (m.rest s d) ≡ length d

module _ (State Text : List ℕ → Type 0) (m : Mode) (k : Keeps State Text m) where
  pub chain_length : (s d : List ℕ) → State s → Text d → length (chain m s d) ≡ length d
  chain_length = by_blocks (λ s d. State s → Text d → length (chain m s d) ≡ length d) m
      (λ s d q hs hd. rw (chain-rest m s d q) (k.rest s d hs hd q))
      (λ s d h i hs hd.
      let b : length (take 16 d) ≡ 16 = length-take-le 16 d h in
      let f = k.front d hd h in
      let r = i (k.next s (take 16 d) hs f b) (k.back d hd h) in
      rw (chain-block m s d h, length-append) (omega (arith, k.block s (take 16 d) hs f b, length-drop 16 d)))

module _ (State : List ℕ → Type 0) (m : Mode)
    (next : (s b : List ℕ) → State s → AreBytes b → State (m.next s b))
    (block : (s b : List ℕ) → State s → AreBytes b → AreBytes (m.block s b))
    (rest : (s d : List ℕ) → State s → AreBytes d → AreBytes (m.rest s d)) where
  pub chain-bytes : (s d : List ℕ) → State s → AreBytes d → AreBytes (chain m s d)
  chain-bytes = by_blocks (λ s d. State s → AreBytes d → AreBytes (chain m s d)) m
      (λ s d q hs hd. rw (chain-rest m s d q) (rest s d hs hd))
      (λ s d h i hs hd.
      let f = below-take 256 16 d hd in
      rw (chain-block m s d h) (below-append 256 (m.block s (take 16 d)) _ (block s (take 16 d) hs f)
      (i (next s (take 16 d) hs f) (below-drop 256 16 d hd))))
