-- The decision over the padding: what it answers, of a block, of a text that ends in one, and of a padded message; and that a text which it
-- accepts is a padded message.
use Rattle.block.proofs.Base.{◌%◌, ◌+◌, ◌-◌, ◌<◌, ◌≤◌, ℕ, ◌≡◌, refl, Bool, cond, false, not, true, List, [], ◌++◌, ◌∷◌, arith, le-leb}
use Rattle.block.proofs.Base.{leb-true, lt-leb, leb, drop, get_or, length, length-append, length-replicate, replicate, take, take-append-drop}
use Rattle.block.proofs.Base.{drop-append-add, length-take-le}
use lib.ListN.{get_or-replicate}
use lib.Seq.{get_or-append-add}
use Rattle.block.specs.Same.{same}
use Rattle.block.proofs.Same.{and_left, and_right, same_refl, same_equal}
use Rattle.padding.specs.Padding.{padding, padded}
use Rattle.padding.specs.Padding.{last_byte, names_padding, all_padding, unpadded}
use Rattle.std.specs.Prelude.{Result, Ok, Err}
use Rattle.padding.specs.declared.BadPadding.{BadPadding}
use Rattle.padding.specs.declared.BadPadding.TheVariants.{InvalidLastU8, InvalidPadding}

pub names_some : (b : ℕ) → 1 ≤ b → b ≤ 16 → names_padding b ≡ true
unfolding names_padding
names_some b h k = rw (le-leb _ _ h, le-leb _ _ k)

pub zero_names_none : (b : ℕ) → b < 1 → names_padding b ≡ false
unfolding names_padding
zero_names_none b h = rw (lt-leb _ _ h)

pub high_names_none : (b : ℕ) → 16 < b → names_padding b ≡ false
unfolding names_padding
high_names_none b h = let k : 1 ≤ b = omega arith in rw (le-leb _ _ k, lt-leb _ _ h)

names_ge : (b : ℕ) → names_padding b ≡ true → 1 ≤ b
unfolding names_padding
names_ge b e = leb-true 1 b (and_left (leb 1 b) (leb b 16) e)

names_le : (b : ℕ) → names_padding b ≡ true → b ≤ 16
unfolding names_padding
names_le b e = leb-true b 16 (and_right (leb 1 b) (leb b 16) e)

-- the answer, by whether the last byte names a padding and whether all of it is right
abbrev pub answered : Bool → Bool → ℕ → Result ℕ BadPadding
answered u v k = cond (not u) (Err InvalidLastU8) (cond (not v) (Err InvalidPadding) (Ok k))

-- of a block, by the byte at its end and the bytes that it counts
pub block-unpadded : (p : List ℕ) (u v : Bool) → length p ≡ 16 → names_padding (get_or p 15 0) ≡ u
    → same (drop (16 - get_or p 15 0) p) (replicate (get_or p 15 0) (get_or p 15 0)) ≡ v → answered u v (16 - get_or p 15 0) ≡ unpadded p
unfolding unpadded all_padding
block-unpadded p u v n e f = let k : length p - 1 ≡ 15 = omega arith in rw (k, n, e, f)

-- of a text a that goes on by b, and b is not empty
last-of_two : (a b : List ℕ) → 0 < length b → last_byte (a ++ b) ≡ last_byte b
last-of_two a b h =
    let e : length a + length b - 1 ≡ length a + (length b - 1) = omega arith in
    rw (length-append a b, e) (get_or-append-add a b (length b - 1) 0)

last_some : (p : List ℕ) → 1 ≤ last_byte p → 1 ≤ length p
last_some [] h = absurd (omega arith)
last_some (x ∷ p) h = omega arith

padding-of_two : (a b : List ℕ) → 0 < length b → last_byte b ≤ length b → all_padding (a ++ b) ≡ all_padding b
unfolding all_padding
padding-of_two a b h k =
    let e : length a + length b - last_byte b ≡ length a + (length b - last_byte b) = omega arith in
    rw (last-of_two a b h, length-append a b, e, drop-append-add a b (length b - last_byte b))

-- the answer, where k bytes stand before
abbrev pub behind : ℕ → Result ℕ BadPadding → Result ℕ BadPadding
behind k (Ok n) = Ok (k + n)
behind k (Err b) = Err b

answered-behind : (u v : Bool) (k n : ℕ) → answered u v (k + n) ≡ behind k (answered u v n)
answered-behind true true k n = refl
answered-behind true false k n = refl
answered-behind false v k n = refl

-- only where the last byte names a padding is it asked for
behind_by : (a b : List ℕ) (u : Bool) → 16 ≤ length b → names_padding (last_byte b) ≡ u
    → answered u (all_padding (a ++ b)) (length a + length b - last_byte b)
    ≡ behind (length a) (answered u (all_padding b) (length b - last_byte b))
behind_by a b false h e = refl
behind_by a b true h e =
    let l = names_le (last_byte b) e in
    let m : length a + length b - last_byte b ≡ length a + (length b - last_byte b) = omega arith in
    rw (padding-of_two a b (omega arith) (omega arith), m) (answered-behind true (all_padding b) (length a) (length b - last_byte b))

pub unpadded-behind : (a b : List ℕ) → 16 ≤ length b → unpadded (a ++ b) ≡ behind (length a) (unpadded b)
unfolding unpadded
unpadded-behind a b h = rw (last-of_two a b (omega arith), length-append a b) (behind_by a b (names_padding (last_byte b)) h refl)

accepted_by : (u v : Bool) (k n : ℕ) → answered u v k ≡ Ok n → (u ≡ true) × (v ≡ true) × (k ≡ n)
accepted_by true true k n e = (refl, refl, cc)
accepted_by true false k n e = let z : ◌≡◌ {A = ℕ} 0 1 = cc in absurd (omega arith)
accepted_by false v k n e = let z : ◌≡◌ {A = ℕ} 0 1 = cc in absurd (omega arith)

-- an accepted text: its last byte names a padding, all of which is right, and the rest is the message
accepted : (p : List ℕ) (n : ℕ) → unpadded p ≡ Ok n
    → (names_padding (last_byte p) ≡ true) × (all_padding p ≡ true) × (length p - last_byte p ≡ n)
unfolding unpadded
accepted p n e = accepted_by (names_padding (last_byte p)) (all_padding p) (length p - last_byte p) n e

pub unpadded-le : (p : List ℕ) (k : ℕ) → unpadded p ≡ Ok k → k ≤ length p
unpadded-le p k e = let g = (accepted p k e).2 in omega arith

-- a padded message gives its length back
pub padded-unpadded : (d : List ℕ) → unpadded (padded d) ≡ Ok (length d)
unfolding unpadded all_padding
padded-unpadded d =
    let k = 16 - length d % 16 in
    let q = padding (length d) in
    let n : length q ≡ k = length-replicate k k in
    let l : last_byte q ≡ k = rw n (get_or-replicate k (k - 1) k 0 (omega arith)) in
    let z : k - k ≡ 0 = omega arith in
    let s : all_padding q ≡ true = rw (l, n, z) (same_refl q) in
    let m : length d + length q - k ≡ length d = omega arith in
    rw (
      padding-of_two d q (omega arith) (omega arith),
      s,
      last-of_two d q (omega arith),
      l,
      names_some k (omega arith) (omega arith),
      length-append d q,
      m,
    )

-- and a text that gives a length is that much of it, padded
pub unpadded-padded : (p : List ℕ) (n : ℕ) → length p % 16 ≡ 0 → unpadded p ≡ Ok n → padded (take n p) ≡ p
unfolding all_padding
unpadded-padded p n h e =
    let b = last_byte p in
    let g = accepted p n e in
    let le = names_le b g.0 in
    let m : length p - b ≡ n = g.2 in
    let ge = names_ge b g.0 in
    let some = last_some p ge in
    let l : length (take n p) ≡ n = length-take-le n p (omega arith) in
    let k : 16 - n % 16 ≡ b = omega arith in
    let s : drop n p ≡ replicate b b = rw m at (same_equal (drop (length p - b) p) (replicate b b) g.1) in
    rw (l, k, ← s) (take-append-drop n p)
