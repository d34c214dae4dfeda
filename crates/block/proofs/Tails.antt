-- Loops over the tails of a message and of an output: what they read, and what they leave where they write.
use Rattle.block.proofs.Base.{◌-◌, ◌≤◌, ℕ, ◌∙◌, ◌≡◌, ap, ap₂, sym, List, ◌++◌, append_assoc, append-nil, arith, drop}
use Rattle.block.proofs.Base.{drop_of_length-le, length, length-append, length-drop, take, drop_at, drop-drop, take_all, take_at}
use Rattle.block.specs.Over.{over}

-- what `&d[at..]` holds
abbrev pub tailed : ℕ → List ℕ → List ℕ
tailed at d = take (length d - at) (drop at d)

-- what `o` holds once `&mut o[at..]` came back as t
abbrev pub returned : ℕ → List ℕ → List ℕ → List ℕ
returned at o t = take at o ++ (t ++ drop (length o - at) (drop at o))

pub tail_is : (d : List ℕ) (at : ℕ) → tailed at d ≡ drop at d
tail_is d at = take_all (length d - at) (drop at d) (rw length-drop (omega arith))

pub returned_is : (o t : List ℕ) (at : ℕ) → returned at o t ≡ take at o ++ t
returned_is o t at =
    let h : length (drop at o) ≤ length o - at = rw length-drop (omega arith) in
    rw (drop_of_length-le (drop at o) h, append-nil)

pub length_tailed : (d : List ℕ) (at : ℕ) → length (tailed at d) ≡ length d - at
length_tailed d at = rw (tail_is d at, length-drop)

pub over-append : (p q o : List ℕ) → over (p ++ q) o ≡ p ++ over q (drop (length p) o)
over-append p q o = rw (length-append p q, append_assoc, drop-drop)

-- p was written to the front of an output, and then q behind it
pub over-behind : (p q o o₁ t : List ℕ) (n : ℕ) → length p ≡ n → o₁ ≡ over p o → t ≡ over q (tailed n o₁)
    → returned n o₁ t ≡ over (p ++ q) o
over-behind p q o o₁ t n l e f =
    let front : take n o₁ ≡ p = ap (take n) e ∙ take_at p (drop (length p) o) n l in
    let back : tailed n o₁ ≡ drop (length p) o = tail_is o₁ n ∙ ap (drop n) e ∙ drop_at p (drop (length p) o) n l in
    returned_is o₁ t n ∙ ap₂ ◌++◌ front (f ∙ ap (over q) back) ∙ sym (over-append p q o)
