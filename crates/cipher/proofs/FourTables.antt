-- T of a word is one entry of each of the four tables, xored: tau's four bytes stand at places of their own, so their sum is their
-- xor, and L distributes over it.
use Rattle.cipher.proofs.Names.{L, List, Sbox, T, ◌%◌, ◌*◌, ◌+◌, ◌-◌, ◌/◌, ◌<◌, ◌^◌, ◌∙◌, ◌≡◌, ◌⊕◌, add-zero, ap, ap₂, arith, bit_xor}
use Rattle.cipher.proofs.Names.{bytes_of, get_or, mixed, mixed_from, mixed_table, number_of, refl, split, sym, tau, xor_shifted, zero-add}
use Rattle.cipher.proofs.Names.{xor_comm, ℕ}
use Rattle.std.specs.Int.Bits.{xor_assoc}
use Rattle.std.specs.Int.{from_le_bytes, to_le_bytes, w32}
use Rattle.cipher.proofs.Tables.{sbox-byte, from_at}
use Rattle.cipher.proofs.Linear.{L-xor}

-- entry b of table j
mixed-at : (j b k : ℕ) → b < 256 → j < 4 → k ≡ 256 * j + b → get_or mixed_table k 0 ≡ L (Sbox b * 256 ^ (3 - j))
unfolding mixed_table mixed_from
mixed-at j b k h g e =
    let d : k / 256 ≡ j = omega arith in
    let m : k % 256 ≡ b = omega arith in
    from_at mixed mixed_from (λ n i. refl) 1024 0 k (omega arith) ∙ ap mixed (zero-add k) ∙ ap₂ (λ (x y : ℕ). L (Sbox x * 256 ^ (3 - y))) m d

-- a multiple of 2 ^ k, and what is below 2 ^ k, have no bit in common
xor-sum : (k a b : ℕ) → a % 2 ^ k ≡ 0 → b < 2 ^ k → a ⊕ b ≡ a + b
xor-sum k a b e h = let s : a / 2 ^ k * 2 ^ k ≡ a = sym (add-zero _) ∙ rw e at (split a k) in rw s at (xor_shifted (a / 2 ^ k) k b h)

-- four bytes at their places, the low one first, through L
L-bytes : (a b c d : ℕ) → a < 256 → b < 256 → c < 256 → d < 256
    → L (a * 2 ^ 24 + b * 2 ^ 16 + c * 2 ^ 8 + d) ≡ L d ⊕ L (c * 2 ^ 8) ⊕ L (b * 2 ^ 16) ⊕ L (a * 2 ^ 24)
L-bytes a b c d ha hb hc hd =
    let p = a * 2 ^ 24 in
    let q = b * 2 ^ 16 in
    let r = c * 2 ^ 8 in
    let e1 : d ⊕ r ≡ r + d = xor_comm d r ∙ xor-sum 8 r d (omega arith) (omega arith) in
    let e2 : r + d ⊕ q ≡ q + (r + d) = xor_comm (r + d) q ∙ xor-sum 16 q (r + d) (omega arith) (omega arith) in
    let e3 : q + (r + d) ⊕ p ≡ p + q + r + d = xor_comm (q + (r + d)) p ∙ xor-sum 24 p (q + (r + d)) (omega arith) (omega arith) ∙ omega arith in
    ap L (sym e3) ∙ L-xor (q + (r + d)) p (omega arith) (omega arith) ∙ ap (λ (x : ℕ). x ⊕ L p)
    (ap L (sym e2) ∙ L-xor (r + d) q (omega arith) (omega arith)
    ∙ ap (λ (x : ℕ). x ⊕ L q) (ap L (sym e1) ∙ L-xor d r (omega arith) (omega arith)))

pub tau-bytes : (w : ℕ)
    → tau w ≡ Sbox (w / 2 ^ 24 % 256) * 2 ^ 24 + Sbox (w / 2 ^ 16 % 256) * 2 ^ 16 + Sbox (w / 2 ^ 8 % 256) * 2 ^ 8 + Sbox (w % 256)
unfolding tau number_of bytes_of
tau-bytes w = let d : w / 1 % 256 ≡ w % 256 = omega arith in rw d (omega arith)

-- s being the word's bytes, the low one first
pub mixed_T : (w : ℕ) (s : List ℕ) → s ≡ to_le_bytes w32 w
    → get_or mixed_table (768 + get_or s 0 0) 0 ⊕ get_or mixed_table (512 + get_or s 1 0) 0 ⊕ get_or mixed_table (256 + get_or s 2 0) 0 ⊕ get_or
    mixed_table (get_or s 3 0) 0 ≡ T w
unfolding T
mixed_T w s e =
    let b0 : w % 256 < 256 = omega arith in
    let b1 : w / 2 ^ 8 % 256 < 256 = omega arith in
    let b2 : w / 2 ^ 16 % 256 < 256 = omega arith in
    let b3 : w / 2 ^ 24 % 256 < 256 = omega arith in
    rw e
    (ap₂ bit_xor (ap₂ bit_xor (ap₂ bit_xor (mixed-at 3 _ _ b0 (omega arith) (omega arith) ∙ ap L (omega arith))
    (mixed-at 2 _ _ b1 (omega arith) (omega arith))) (mixed-at 1 _ _ b2 (omega arith) (omega arith))) (mixed-at 0 _ _ b3 (omega arith) (omega arith))
    ∙ sym (L-bytes _ _ _ _ (sbox-byte _ b3) (sbox-byte _ b2) (sbox-byte _ b1) (sbox-byte _ b0)) ∙ ap L (sym (tau-bytes w)))

-- four numbers, the other way round
turned-xor : (a b c d : ℕ) → a ⊕ b ⊕ c ⊕ d ≡ d ⊕ c ⊕ b ⊕ a
turned-xor a b c d =
    xor_comm (a ⊕ b ⊕ c) d ∙ ap (λ (x : ℕ). d ⊕ x) (xor_comm (a ⊕ b) c ∙ ap (λ (x : ℕ). c ⊕ x) (xor_comm a b))
    ∙ sym (xor_assoc d c (b ⊕ a)) ∙ sym (xor_assoc (d ⊕ c) b a)

pub mixed-T : (w : ℕ) → w < 2 ^ 32
    → get_or mixed_table (w / 2 ^ 24) 0 ⊕ get_or mixed_table (256 + w / 2 ^ 16 % 256) 0 ⊕ get_or mixed_table (512 + w / 2 ^ 8 % 256) 0 ⊕ get_or
    mixed_table (768 + w % 256) 0 ≡ T w
mixed-T w h =
    let top : w / 2 ^ 24 % 256 ≡ w / 2 ^ 24 = omega arith in
    turned-xor (get_or mixed_table (w / 2 ^ 24) 0) (get_or mixed_table (256 + w / 2 ^ 16 % 256) 0)
    (get_or mixed_table (512 + w / 2 ^ 8 % 256) 0) (get_or mixed_table (768 + w % 256) 0)
    ∙ rw top at (mixed_T w (to_le_bytes w32 w) refl)

-- and r what the S-box makes of each of the bytes
pub low_tau : (w : ℕ) (s r : List ℕ) → s ≡ to_le_bytes w32 w → ((i : ℕ) → i < 4 → get_or r i 0 ≡ Sbox (get_or s i 0)) → from_le_bytes w32 r ≡ tau w
low_tau w s r e f =
    rw (f 0 (omega arith), f 1 (omega arith), f 2 (omega arith), f 3 (omega arith), e, tau-bytes w) (omega arith)
