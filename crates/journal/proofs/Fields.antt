-- A row of fields, one behind the other: each is so many bytes, or a part that tells its length. What is behind it changes nothing of it.
use Rattle.journal.proofs.Names.{Below, List, get_or-append, [], ◌++◌, ◌+◌, ◌<◌, ◌∙◌, ◌∷◌, ◌≡◌, ◌≤◌, ap, append_assoc, arith}
use Rattle.journal.proofs.Names.{below-drop, drop, drop_at, get_or, get_or-take, length, length-append, length-take-le, refl, sym, take}
use Rattle.journal.proofs.Names.{take-append-drop, take_at, word_at, ℕ}

pub data Field : Type 0 where
  fixed : ℕ → Field
  counted : Field

-- how many bytes of b it has
abbrev pub size_of : Field → List ℕ → ℕ
size_of (fixed n) b = n
size_of counted b = 4 + word_at b 0

-- the row stands whole at the front of b; its bytes, field by field; how many they are; and what is behind them
abbrev pub Fit : List Field → List ℕ → Type 0
Fit [] b = Unit {0}
Fit (f ∷ fs) b = (size_of f b ≤ length b) × Fit fs (drop (size_of f b) b)

abbrev pub fields : List Field → List ℕ → List (List ℕ)
fields [] b = []
fields (f ∷ fs) b = take (size_of f b) b ∷ fields fs (drop (size_of f b) b)

abbrev pub sizes : List Field → List ℕ → ℕ
sizes [] b = 0
sizes (f ∷ fs) b = size_of f b + sizes fs (drop (size_of f b) b)

abbrev pub past : List Field → List ℕ → List ℕ
past [] b = b
past (f ∷ fs) b = past fs (drop (size_of f b) b)

abbrev pub joined : List (List ℕ) → List ℕ
joined [] = []
joined (p ∷ ps) = p ++ joined ps

pub joined_fields : (fs : List Field) (b : List ℕ) → joined (fields fs b) ++ past fs b ≡ b
joined_fields [] b = refl
joined_fields (f ∷ fs) b = rw (append_assoc, joined_fields fs (drop (size_of f b) b)) (take-append-drop (size_of f b) b)

pub past-below : (n : ℕ) (fs : List Field) (b : List ℕ) → Below n b → Below n (past fs b)
past-below n [] b h = h
past-below n (f ∷ fs) b h = past-below n fs (drop (size_of f b) b) (below-drop n (size_of f b) b h)

pub sizes_are : (fs : List Field) (b : List ℕ) → Fit fs b → length (joined (fields fs b)) ≡ sizes fs b
sizes_are [] b h = refl
sizes_are (f ∷ fs) b (h, k) =
    rw (length-append, length-take-le (size_of f b) b h, sizes_are fs (drop (size_of f b) b) k)

-- p is the field f, and ps are the fields fs, whatever is behind them
abbrev pub Is : Field → List ℕ → Type 0
Is f p = (c : List ℕ) → size_of f (p ++ c) ≡ length p

abbrev pub Are : List Field → List (List ℕ) → Type 0
Are [] [] = Unit {0}
Are [] (p ∷ ps) = ⊥
Are (f ∷ fs) [] = ⊥
Are (f ∷ fs) (p ∷ ps) = Is f p × Are fs ps

-- a word is told by its four bytes
pub word_by : (b c : List ℕ) → ((i : ℕ) → i < 4 → get_or b i 0 ≡ get_or c i 0) → word_at b 0 ≡ word_at c 0
word_by b c h = rw (h 0 (omega arith), h 1 (omega arith), h 2 (omega arith), h 3 (omega arith))

field_is : (f : Field) (b : List ℕ) → size_of f b ≤ length b → Is f (take (size_of f b) b)
field_is (fixed n) b h c = sym (length-take-le n b h)
field_is counted b h c =
    let n = 4 + word_at b 0 in
    let l = length-take-le n b h in
    let w : word_at (take n b ++ c) 0 ≡ word_at b 0 =
    word_by (take n b ++ c) b (λ i k. get_or-append (take n b) c 0 i (omega arith) ∙ get_or-take n b i 0 (omega arith)) in
    omega arith

pub fields_are : (fs : List Field) (b : List ℕ) → Fit fs b → Are fs (fields fs b)
fields_are [] b h = tt
fields_are (f ∷ fs) b (h, k) = (field_is f b h, fields_are fs (drop (size_of f b) b) k)

-- what was joined is read field by field
pub row : (fs : List Field) (ps : List (List ℕ)) (rest : List ℕ) → Are fs ps
    → Fit fs (joined ps ++ rest) × (fields fs (joined ps ++ rest) ≡ ps)
row [] [] rest a = (tt, refl)
row [] (p ∷ ps) rest a = absurd a
row (f ∷ fs) [] rest a = absurd a
row (f ∷ fs) (p ∷ ps) rest (is, are) =
    let t = joined ps ++ rest in
    let r = row fs ps rest are in
    rw (append_assoc p (joined ps) rest, is t, drop_at p t (length p) refl, take_at p t (length p) refl)
    ((omega (arith, length-append p t), r.0), ap (λ (l : List (List ℕ)). p ∷ l) r.1)

-- whatever has the bytes of a row in front has the row in front
pub row_in : (fs : List Field) (b s : List ℕ) → Fit fs b → take (length (joined (fields fs b))) s ≡ joined (fields fs b)
    → Fit fs s × (fields fs s ≡ fields fs b)
row_in fs b s fit h =
    let n = length (joined (fields fs b)) in
    let e : joined (fields fs b) ++ drop n s ≡ s = ap (λ (w : List ℕ). w ++ drop n s) (sym h) ∙ take-append-drop n s in
    rw e at (row fs (fields fs b) (drop n s) (fields_are fs b fit))
