-- What a product takes of its second factor: parts of every fourth bit.
use Rattle.std.specs.Prelude.{◌≡◌, List, [], ◌∷◌, ◌++◌, ℕ, ◌/◌, ◌%◌, ◌^◌, map}
use Rattle.std.specs.Int.Bits.{bit_and}
use Rattle.block.specs.Xor.{◌⊕◌}
use Rattle.block.specs.declared.U128.{U128}
use Rattle.carryless.specs.declared.Factor.{Factor}

-- the four parts of a number of 32 bits
abbrev pub quarters : ℕ → List ℕ
quarters y = bit_and y 0x1111_1111 ∷ bit_and y 0x2222_2222 ∷ bit_and y 0x4444_4444 ∷ bit_and y 0x8888_8888 ∷ []

-- the words whose products make up a product: of a number of 64 bits its high half, its low half, and their sum
abbrev pub words64 : ℕ → List ℕ
words64 y = y / 2 ^ 32 ∷ y % 2 ^ 32 ∷ (y % 2 ^ 32 ⊕ y / 2 ^ 32) ∷ []

-- of a number of 128 bits those of its halves and of their sum
abbrev pub words128 : U128 → List ℕ
words128 y = words64 y.high ++ (words64 y.low ++ words64 (y.low ⊕ y.high))

-- the parts that stand beside the number are those of these words
pub record PartsOf (y : Factor) : Type 0 where
  pub words : y.parts ≡ map quarters (words128 y.number)

-- m is those of a number of 64 bits
pub record Parts64 (y : ℕ) (m : List (List ℕ)) : Type 0 where
  pub words : m ≡ map quarters (words64 y)
