-- A list that is written from its front, place by place.
use Rattle.block.proofs.Base.{◌+◌, ◌<◌, ◌≤◌, suc, zero, ℕ, ◌∙◌, ◌≡◌, ap, refl, List, [], ◌++◌, ◌∷◌, append_assoc, add-one, arith}
use Rattle.block.proofs.Base.{drop}
use Rattle.block.proofs.Base.{get_or, length, set, take, drop-cons, length-take-le, take-length}
use lib.Seq.{take-suc, set_at}
use Rattle.block.specs.Xor.{◌⊕◌, xors}
use Rattle.block.proofs.Xors.{length-xors}
use Rattle.block.specs.Over.{over}

-- p is written, and the rest is o's
fill_turn : (p o : List ℕ) (i v : ℕ) → length p ≡ i → i < length o → set (p ++ drop i o) i v ≡ (p ++ (v ∷ [])) ++ drop (i + 1) o
fill_turn p o i v h k = rw (drop-cons o i 0, set_at p _ _ v i, append_assoc, add-one)

-- the entries of s go over o
pub copy_turn : (s o b : List ℕ) (i : ℕ) → b ≡ take i s ++ drop i o → i < length s → i < length o
    → set b i (get_or s i 0) ≡ take (i + 1) s ++ drop (i + 1) o
copy_turn s o b i e h k = rw e (fill_turn (take i s) o i (get_or s i 0) (length-take-le i s (omega arith)) k ∙ rw (add-one, take-suc s i 0))

xors-suc : (a b : List ℕ) (i : ℕ) → i < length a → i < length b
    → xors (take (suc i) a) b ≡ xors (take i a) b ++ ((get_or a i 0 ⊕ get_or b i 0) ∷ [])
xors-suc [] b i h k = absurd (omega arith)
xors-suc (x ∷ a) [] i h k = absurd (omega arith)
xors-suc (x ∷ a) (y ∷ b) zero h k = refl
xors-suc (x ∷ a) (y ∷ b) (suc i) h k = ap (λ (l : List ℕ). (x ⊕ y) ∷ l) (xors-suc a b i (omega arith) (omega arith))

-- the entries of d xored with p's go over o
pub xor_turn : (d p o b : List ℕ) (i : ℕ) → b ≡ xors (take i d) p ++ drop i o → i < length d → i < length p → i < length o
    → set b i (get_or d i 0 ⊕ get_or p i 0) ≡ xors (take (i + 1) d) p ++ drop (i + 1) o
xor_turn d p o b i e h k l =
    let n : length (take i d) ≡ i = length-take-le i d (omega arith) in
    let f : length (xors (take i d) p) ≡ i = length-xors (take i d) p (omega arith) ∙ n in
    rw e (fill_turn (xors (take i d) p) o i _ f l ∙ rw (add-one, xors-suc))

pub xor-filled : (d p o b : List ℕ) (i : ℕ) → b ≡ xors (take i d) p ++ drop i o → i ≡ length d → length d ≤ length p → b ≡ over (xors d p) o
xor-filled d p o b i e h k = e ∙ rw (h, take-length, length-xors d p k)
