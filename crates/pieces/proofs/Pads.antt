-- A text xored with a pad that is shorter or longer: as far as both go, in two parts, and byte by byte.
use Rattle.pieces.proofs.Names.{List, [], ◌++◌, ◌-◌, ◌∙◌, ◌∷◌, ◌≡◌, ◌≤◌, ◌⊕◌, ap, arith, drop, drop_at}
use Rattle.pieces.proofs.Names.{length, length-drop, min, refl, suc, sym, tail_is, take, take_all, take-append-drop}
use Rattle.pieces.proofs.Names.{take_at, xors, xors_comm, zero, ℕ}

-- a part of what is xored is that part of both
pub take-xors : (n : ℕ) (a p : List ℕ) → take n (xors a p) ≡ xors (take n a) p
take-xors zero a p = refl
take-xors (suc n) [] p = refl
take-xors (suc n) (x ∷ a) [] = refl
take-xors (suc n) (x ∷ a) (y ∷ p) = ap {B = List ℕ} (λ l. (x ⊕ y) ∷ l) (take-xors n a p)

pub drop-xors : (n : ℕ) (a p : List ℕ) → drop n (xors a p) ≡ xors (drop n a) (drop n p)
drop-xors zero a p = refl
drop-xors (suc n) [] p = refl
drop-xors (suc n) (x ∷ a) [] = sym (xors_comm (drop n a) [])
drop-xors (suc n) (x ∷ a) (y ∷ p) = drop-xors n a p

pub length_both : (a b : List ℕ) → length (xors a b) ≡ min (length a) (length b)
length_both [] b = omega arith
length_both (x ∷ a) [] = omega arith
length_both (x ∷ a) (y ∷ b) = let i = length_both a b in omega arith

-- bytes past the end of either do not count
pub xors-front : (n : ℕ) (a b : List ℕ) → min (length a) (length b) ≤ n → xors (take n a) b ≡ xors a b
xors-front n a b h = sym (take-xors n a b) ∙ take_all n (xors a b) (rw length_both h)

-- and so much of the text counts as a block has left, of which p bytes are behind
pub begun-pad : (d pad : List ℕ) (p n : ℕ) → min (length d) (length pad - p) ≤ n
    → xors (take n d) (take (length pad - p) (drop p pad)) ≡ xors d (drop p pad)
begun-pad d pad p n h = rw (tail_is pad p, xors-front n d (drop p pad) (rw length-drop h))

-- a text in two parts goes on in the pad
pub xors_cut : (a b p : List ℕ) → xors (a ++ b) p ≡ xors a p ++ xors b (drop (length a) p)
xors_cut a b p =
    let n = length a in
    rw (← take-append-drop n (xors (a ++ b) p), take-xors n (a ++ b) p, drop-xors n (a ++ b) p, take_at a b n refl, drop_at a b n refl)
