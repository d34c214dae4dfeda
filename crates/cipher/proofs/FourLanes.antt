-- The four bytes of a word in lanes 0, 8, 16 and 24 of eight words: how they are laid there, and how they are read off.
use Rattle.std.proofs.Math.ListN.{get_or-append}
use Rattle.std.proofs.lemmas.List.{get_or_push, length_push}
use Rattle.cipher.proofs.Names.{◌++◌, ap₂, length}
use Rattle.cipher.proofs.Names.{List, Sbox, SboxLanes, [], ◌%◌, ◌*◌, ◌+◌, ◌/◌, ◌-◌, ◌<◌, ◌^◌, ◌∙◌, ◌∷◌, ◌≡◌, ◌≤◌, add_comm, and_block}
use Rattle.cipher.proofs.Names.{and_mask, and_zero_r, ap, arith, bit, bit-mod, bit-shr, bit-small, bit_and, byte_lane, div-one}
use Rattle.cipher.proofs.Names.{four_bytes, four_lanes, get_or, lit<, mod-lt, pack, pack_is, pack-lt, pow_pos, refl}
use Rattle.cipher.proofs.Names.{shr-shr, split, suc, sym, tau, zero, ℕ}
use Rattle.cipher.proofs.FourTables.{tau-bytes}

-- a mask whose lowest byte is 1
mask-byte : (x m : ℕ) → bit_and x (m * 2 ^ 8 + 1) ≡ bit_and (x / 2 ^ 8) m * 2 ^ 8 + x % 2
mask-byte x m =
    let low : bit_and (x % 2 ^ 8) 1 ≡ x % 2 = and_mask (x % 2 ^ 8) 1 ∙ omega arith in
    ap (λ (y : ℕ). bit_and y (m * 2 ^ 8 + 1)) (sym (split x 8)) ∙ and_block 8 (x / 2 ^ 8) m (x % 2 ^ 8) 1 (mod-lt x (pow_pos 8)) (lit< tt)
    ∙ ap (λ (y : ℕ). bit_and (x / 2 ^ 8) m * 2 ^ 8 + y) low

mask_more : (x m k : ℕ) → bit_and (x / 2 ^ k) (m * 2 ^ 8 + 1) ≡ bit_and (x / 2 ^ (k + 8)) m * 2 ^ 8 + bit k x
unfolding bit
mask_more x m k = mask-byte (x / 2 ^ k) m ∙ ap (λ (y : ℕ). bit_and y m * 2 ^ 8 + x / 2 ^ k % 2) (shr-shr x k 8)

pub masked_lanes : (x : ℕ) → bit_and x 0x01010101 ≡ four_lanes x
masked_lanes x =
    ap (λ (y : ℕ). bit_and y 0x01010101) (sym (div-one x))
    ∙ omega (arith, mask_more x 0x010101 0, mask_more x 0x0101 8, mask_more x 1 16, mask_more x 0 24, and_zero_r (x / 2 ^ 32))

lane-lt : (o : List ℕ) (n : ℕ) → byte_lane o n < 2 ^ 8
unfolding byte_lane
lane-lt o n = pack-lt 8 _ (λ i. bit-small n (get_or o i 0))

-- k of eight numbers, from the last on, each doubled onto the one before
abbrev pub doubled : ℕ → (ℕ → ℕ) → ℕ
doubled zero f = 0
doubled (suc k) f = doubled k f * 2 + f (7 - k)

-- which have room in a word where they stand in four lanes
pub doubled_fits : (k : ℕ) (f : ℕ → ℕ) → ((i : ℕ) → f i ≤ 0x01010101) → k < 8 → doubled k f * 2 + 0x01010101 < 2 ^ 32
doubled_fits zero f h n = omega arith
doubled_fits (suc zero) f h n = omega (arith, h 7)
doubled_fits (suc (suc zero)) f h n = omega (arith, h 7, h 6)
doubled_fits (suc (suc (suc zero))) f h n = omega (arith, h 7, h 6, h 5)
doubled_fits (suc (suc (suc (suc zero)))) f h n = omega (arith, h 7, h 6, h 5, h 4)
doubled_fits (suc (suc (suc (suc (suc zero))))) f h n = omega (arith, h 7, h 6, h 5, h 4, h 3)
doubled_fits (suc (suc (suc (suc (suc (suc zero)))))) f h n = omega (arith, h 7, h 6, h 5, h 4, h 3, h 2)
doubled_fits (suc (suc (suc (suc (suc (suc (suc zero))))))) f h n = omega (arith, h 7, h 6, h 5, h 4, h 3, h 2, h 1)
doubled_fits (suc (suc (suc (suc (suc (suc (suc (suc k)))))))) f h n = absurd (omega arith)

-- of eight numbers `left` is left, at the front; those behind it are doubled in w
abbrev pub LeftOf : List ℕ → List ℕ → ℕ → Type 0
LeftOf o left w =
    (length left ≤ 8) × ((i : ℕ) → i < length left → get_or left i 0 ≡ get_or o i 0)
    × (w ≡ doubled (8 - length left) (λ i. four_lanes (get_or o i 0)))

pub one_off : (o left rest : List ℕ) (x w : ℕ) → left ≡ rest ++ x ∷ [] → LeftOf o left w → LeftOf o rest (w * 2 + four_lanes x)
one_off o left rest x w e h =
    let f : ℕ → ℕ = λ i. four_lanes (get_or o i 0) in
    let n : length left ≡ length rest + 1 = ap length e ∙ length_push rest x in
    let k : suc (8 - length left) ≡ 8 - length rest = omega (arith, n, h.0) in
    let at : length rest ≡ 7 - (8 - length left) = omega (arith, n, h.0) in
    let last : x ≡ get_or o (length rest) 0 =
    sym (get_or_push rest x 0 (length rest) refl) ∙ ap (λ (l : List ℕ). get_or l (length rest) 0) (sym e)
    ∙ h.1 (length rest) (omega (arith, n)) in (
      omega (arith, n, h.0),
      λ i g. sym (get_or-append rest (x ∷ []) 0 i g) ∙ ap (λ (l : List ℕ). get_or l i 0) (sym e) ∙ h.1 i (omega (arith, n, g)),
      ap₂ (λ (a b : ℕ). a * 2 + four_lanes b) h.2 (last ∙ ap (λ (i : ℕ). get_or o i 0) at) ∙ ap (λ (m : ℕ). doubled m f) k,
    )

pub four_lanes-le : (w : ℕ) → four_lanes w ≤ 0x01010101
four_lanes-le w = omega (arith, bit-small 24 w, bit-small 16 w, bit-small 8 w, bit-small 0 w)

-- masked, they are the four bytes of their lanes
pub joined : (o : List ℕ) → doubled 8 (λ i. four_lanes (get_or o i 0)) ≡ four_bytes o
unfolding pack byte_lane
joined o = omega arith

-- a word shifted by 0 to 7
abbrev pub shifted : ℕ → List ℕ
shifted w = w ∷ w / 2 ^ 1 ∷ w / 2 ^ 2 ∷ w / 2 ^ 3 ∷ w / 2 ^ 4 ∷ w / 2 ^ 5 ∷ w / 2 ^ 6 ∷ w / 2 ^ 7 ∷ []

shifted_at : (w i : ℕ) → i < 8 → get_or (shifted w) i 0 ≡ w / 2 ^ i
shifted_at w zero h = sym (div-one w)
shifted_at w (suc zero) h = refl
shifted_at w (suc (suc zero)) h = refl
shifted_at w (suc (suc (suc zero))) h = refl
shifted_at w (suc (suc (suc (suc zero)))) h = refl
shifted_at w (suc (suc (suc (suc (suc zero))))) h = refl
shifted_at w (suc (suc (suc (suc (suc (suc zero)))))) h = refl
shifted_at w (suc (suc (suc (suc (suc (suc (suc zero))))))) h = refl
shifted_at w (suc (suc (suc (suc (suc (suc (suc (suc i)))))))) h = absurd (omega arith)

-- has in lane n the byte that starts at bit n
shifted_lane : (w n : ℕ) → byte_lane (shifted w) n ≡ w / 2 ^ n % 2 ^ 8
unfolding byte_lane
shifted_lane w n =
    pack_is 8 (λ i. bit n (get_or (shifted w) i 0)) (w / 2 ^ n % 2 ^ 8) (λ i. bit-small n (get_or (shifted w) i 0)) (mod-lt _ (pow_pos 8))
    (λ i h. ap (bit n) (shifted_at w i h) ∙ bit-shr i n w ∙ ap (λ (k : ℕ). bit k w) (add_comm i n)
    ∙ sym (bit-mod 8 i (w / 2 ^ n) h ∙ bit-shr n i w))

-- tau by the S-box in lanes
pub tau_lanes : (w : ℕ) (r : List ℕ) → SboxLanes (shifted w) r → four_bytes r ≡ tau w
tau_lanes w r s =
    let e : (n : ℕ) → n < 64 → byte_lane r n ≡ Sbox (w / 2 ^ n % 2 ^ 8) = λ n g. s n g ∙ ap Sbox (shifted_lane w n) in
    let first : w / 2 ^ 0 % 2 ^ 8 ≡ w % 2 ^ 8 = omega arith in
    rw (e 24 (lit< tt), e 16 (lit< tt), e 8 (lit< tt), e 0 (lit< tt), first) (sym (tau-bytes w))
