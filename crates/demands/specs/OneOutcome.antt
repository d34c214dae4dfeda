-- What a caller can predict: a contract that says what a call leaves allows one answer and one output alone.
use Rattle.demands.specs.Names as N
use Rattle.std.specs.Prelude.{◌≡◌}
use N.{List, ℕ}

-- Any two answers and outputs that a contract allows are the same; it says that an answer with its output is together x, by `of`.
abbrev pub One : (R X : Type 0) → (R → List ℕ → X) → X → Type 0
One R X of x =
    (answer₁ answer₂ : R) (output₁ output₂ : List ℕ) → of answer₁ output₁ ≡ x → of answer₂ output₂ ≡ x
    → (answer₁ ≡ answer₂) × (output₁ ≡ output₂)

-- the same of a call that writes nothing
abbrev pub OneValue : (R X : Type 0) → (R → X) → X → Type 0
OneValue R X of x = (answer₁ answer₂ : R) → of answer₁ ≡ x → of answer₂ ≡ x → answer₁ ≡ answer₂
