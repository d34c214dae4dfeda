-- The bits of a rotated word, of L and of tau.
use Rattle.cipher.proofs.Names.{L, List, Sbox, ◌%◌, ◌*◌, ◌+◌, ◌-◌, ◌/◌, ◌<◌, ◌^◌, ◌∙◌, ◌≡◌, ◌≤◌, ◌⊕◌, add_comm, ap, arith, bit}
use Rattle.cipher.proofs.Names.{bit_high, bit-low, bit-mod, bit-shr, bit-xor, bytes_of, differ, get_or, lt-or-le, rotl, shr_lt, suc}
use Rattle.cipher.proofs.Names.{sym, tau, zero, ℕ, ⊎_elim}
use Rattle.cipher.proofs.Linear.{rotl_digits}
use Rattle.cipher.proofs.Bounds.{tau_entries}

rotl-bit-at : (w m n i : ℕ) → m + n ≡ 32 → w < 2 ^ 32 → i < 32 → bit i (rotl w n) ≡ bit ((i + m) % 32) w
rotl-bit-at w m n i e hw hi =
    let l : w / 2 ^ m < 2 ^ n = shr_lt n m (rw (add_comm n m, e) hw) in
    ap (bit i) (rotl_digits m n w e) ∙ ⊎_elim
    (λ (g : i < n).
    let q : m + i ≡ (i + m) % 32 = omega arith in
    bit-low n i (w % 2 ^ m) (w / 2 ^ m) g l ∙ bit-shr m i w ∙ ap (λ (x : ℕ). bit x w) q)
    (λ (g : n ≤ i).
    let q : i ≡ n + (i - n) = omega arith in
    let r : i - n ≡ (i + m) % 32 = omega arith in
    ap (λ (x : ℕ). bit x (w % 2 ^ m * 2 ^ n + w / 2 ^ m)) q ∙ bit_high n (i - n) (w % 2 ^ m) (w / 2 ^ m) l
    ∙ bit-mod m (i - n) w (omega arith) ∙ ap (λ (x : ℕ). bit x w) r) (lt-or-le i n)

-- a bit of L from five bits, as they stand
pub L-bit : (w i : ℕ) → w < 2 ^ 32 → i < 32
    → differ (differ (differ (differ (bit i w) (bit ((i + 30) % 32) w)) (bit ((i + 22) % 32) w)) (bit ((i + 14) % 32) w))
    (bit ((i + 8) % 32) w) ≡ bit i (L w)
unfolding L
L-bit w i hw hi =
    let r : (n : ℕ) → n ≤ 32 → bit i (rotl w n) ≡ bit ((i + (32 - n)) % 32) w =
    λ n g. rotl-bit-at w (32 - n) n i (omega arith) hw hi in
    sym (bit-xor i (w ⊕ rotl w 2 ⊕ rotl w 10 ⊕ rotl w 18) (rotl w 24)
    ∙ rw (bit-xor i (w ⊕ rotl w 2 ⊕ rotl w 10) (rotl w 18), bit-xor i (w ⊕ rotl w 2) (rotl w 10), bit-xor i w (rotl w 2))
    (rw (r 2 (omega arith), r 10 (omega arith), r 18 (omega arith), r 24 (omega arith))))

-- each byte of tau is the S-box's
pub tau-byte : (b w : ℕ) → b < 4 → tau w / 2 ^ (8 * b) % 256 ≡ Sbox (w / 2 ^ (8 * b) % 256)
unfolding bytes_of
tau-byte zero w h = ap (λ (l : List ℕ). get_or l 3 0) (tau_entries w)
tau-byte (suc zero) w h = ap (λ (l : List ℕ). get_or l 2 0) (tau_entries w)
tau-byte (suc (suc zero)) w h = ap (λ (l : List ℕ). get_or l 1 0) (tau_entries w)
tau-byte (suc (suc (suc zero))) w h = ap (λ (l : List ℕ). get_or l 0 0) (tau_entries w)
tau-byte (suc (suc (suc (suc b)))) w h = absurd (omega arith)

pub tau-bit : (b i w : ℕ) → b < 4 → i < 8 → bit (8 * b + i) (tau w) ≡ bit i (Sbox (w / 2 ^ (8 * b) % 256))
tau-bit b i w hb hi = sym (bit-shr (8 * b) i (tau w)) ∙ sym (bit-mod 8 i (tau w / 2 ^ (8 * b)) hi) ∙ ap (bit i) (tau-byte b w hb)
