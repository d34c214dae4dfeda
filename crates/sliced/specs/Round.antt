-- A round in every lane.
use Rattle.std.specs.Prelude.{List, [], ◌∷◌, ℕ, ◌+◌, get_or}
use Rattle.block.specs.Xor.{◌⊕◌}
use Rattle.cipher.specs.Sm4.{tau, L}
use Rattle.sliced.specs.Lanes.{lane}

-- what goes into the S-boxes of lane e
unfoldable pub keyed : List ℕ → List ℕ → List ℕ → ℕ → ℕ → ℕ
keyed x y z k e = lane x e ⊕ lane y e ⊕ lane z e ⊕ k

-- and what comes out of them
abbrev pub subbed : List ℕ → List ℕ → List ℕ → ℕ → ℕ → ℕ
subbed x y z k e = tau (keyed x y z k e)

-- L of the words f, added to those of a
unfoldable pub mixed : (ℕ → ℕ) → List ℕ → ℕ → ℕ
mixed f a e = lane a e ⊕ L (f e)

-- three planes and a mask, added at one place
abbrev pub summed : List ℕ → List ℕ → List ℕ → List ℕ → ℕ → ℕ → ℕ
summed x y z m q i = get_or x q 0 ⊕ get_or y q 0 ⊕ get_or z q 0 ⊕ get_or m i 0

-- the eight words that go into the S-boxes of a column, eight places apart from p on
abbrev pub column : List ℕ → List ℕ → List ℕ → List ℕ → ℕ → List ℕ
column x y z m p =
    summed x y z m p 0 ∷ summed x y z m (p + 8) 1 ∷ summed x y z m (p + 16) 2 ∷ summed x y z m (p + 24) 3
    ∷ summed x y z m (p + 32) 4 ∷ summed x y z m (p + 40) 5 ∷ summed x y z m (p + 48) 6 ∷ summed x y z m (p + 56) 7 ∷ []
