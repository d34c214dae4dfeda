-- A block filled from what is held and from the text behind it, zeros to its end.
use Rattle.pieces.proofs.Names.{List, ◌++◌, ◌-◌, ◌∙◌, ◌≡◌, ◌≤◌, append_assoc, arith, drop, filled_up}
use Rattle.pieces.proofs.Names.{length, length-append, replicate, take}
use Rattle.pieces.proofs.Names.{take-append-drop, take-append-le, take-take, ℕ}
use Rattle.pieces.proofs.Names.{append-nil, ap, drop, min, take_all}
use Rattle.std.proofs.lemmas.List.{drop-replicate, take-replicate}
use Rattle.pieces.proofs.Begun.{take_through}
use Rattle.pieces.proofs.Cases.{by_order}

-- as far as c goes its bytes stand at the front
pub filled-front : (c : List ℕ) (p : ℕ) → p ≤ 16 → p ≤ length c → take p (filled_up c) ≡ take p c
unfolding filled_up
filled-front c p low here = take-take p 16 (c ++ replicate 16 0) low ∙ take-append-le p c _ here

-- a block that b, of p bytes, and d fill, and what is left of d
pub filled_full : (b d : List ℕ) (p : ℕ) → length b ≡ p → p ≤ 16 → 16 - p ≤ length d → filled_up (b ++ d) ++ drop (16 - p) d ≡ b ++ d
unfolding filled_up
filled_full b d p n low full =
    let all : 16 ≤ length (b ++ d) = rw length-append (omega arith) in
    rw (← n, take-append-le 16 (b ++ d) _ all, take_through b d 16 (omega arith), append_assoc, take-append-drop)

abbrev zeros : ℕ → List ℕ
zeros n = replicate n 0

-- a block laid out: b, then d as far as it goes, and zeros
pub laid_out : (b d : List ℕ) (p n : ℕ) → length b ≡ p → p ≤ 16 → n ≡ min (length d) (16 - p)
    → b ++ (take n d ++ drop n (drop p (zeros 16))) ≡ filled_up (b ++ d)
unfolding filled_up
laid_out b d p n l low m =
    let left : drop n (drop p (zeros 16)) ≡ zeros (16 - p - n) = ap (drop n) (drop-replicate p 16 0) ∙ drop-replicate n (16 - p) 0 in
    let behind : take n d ++ zeros (16 - p - n) ≡ take (16 - p) (d ++ zeros 16) =
    by_order (length d) (16 - p)
    (λ h. let k : n ≡ length d = omega arith in
    let some : take (16 - p - length d) (zeros 16) ≡ zeros (16 - p - length d) = take-replicate (16 - p - length d) 16 0 (omega arith) in
    rw (k, take_all (length d) d (omega arith), take_through d (zeros 16) (16 - p) (omega arith), some))
    (λ h. let k : n ≡ 16 - p = omega arith in
    let none : 16 - p - (16 - p) ≡ 0 = omega arith in
    rw (k, none, append-nil, take-append-le (16 - p) d (zeros 16) h)) in
    rw (append_assoc, take_through b (d ++ zeros 16) 16 (omega arith), l)
    (ap (λ (r : List ℕ). b ++ (take n d ++ r)) left ∙ ap (λ (r : List ℕ). b ++ r) behind)
