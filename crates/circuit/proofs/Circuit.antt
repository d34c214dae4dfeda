-- The S-box as a circuit of exclusive ors and ands: one test over the 256 bytes, carried to every lane of words.
use Rattle.block.proofs.Base.{◌<◌, min, ℕ, ◌∙◌, ◌≡◌, ap, sym, Bool, List, [], ◌∷◌, map, bit_and, bit_xor, differ, eqb, eqb→eq, lit<, get_or}
use Rattle.block.proofs.Table.{rule_at}
use Rattle.lanes.specs.Bits.{bit, pack, byte_lane}
use Rattle.lanes.proofs.Bits.{bit-small, pack-lt, bit-pack, pack-same}
use Rattle.lanes.proofs.Gates.{run, lane-at, lane-run, ones_bit}
use Rattle.circuit.specs.Sbox.{Sbox, sbox_table, SboxLanes}
use Rattle.circuit.proofs.Gates.{circuit}

-- the eight words that come out, bit 0 first
abbrev pub outs : List ℕ → List ℕ
outs e = get_or e 0 0 ∷ get_or e 1 0 ∷ get_or e 5 0 ∷ get_or e 19 0 ∷ get_or e 2 0 ∷ get_or e 7 0 ∷ get_or e 3 0 ∷ get_or e 4 0 ∷ []

-- what goes in: eight words and one of ones
abbrev pub ins : List ℕ → ℕ → List ℕ
ins x one = get_or x 0 0 ∷ get_or x 1 0 ∷ get_or x 2 0 ∷ get_or x 3 0 ∷ get_or x 4 0 ∷ get_or x 5 0 ∷ get_or x 6 0 ∷ get_or x 7 0 ∷ one ∷ []

-- one lane of that: the bits of a byte and a one
abbrev bits : ℕ → List ℕ
bits b = bit 0 b ∷ bit 1 b ∷ bit 2 b ∷ bit 3 b ∷ bit 4 b ∷ bit 5 b ∷ bit 6 b ∷ bit 7 b ∷ 1 ∷ []

-- the circuit on it
lane : ℕ → List ℕ
lane b = outs (run differ min circuit (bits b))

right : ℕ → ℕ → Bool
right b s = eqb (pack 8 (λ i. get_or (lane b) i 0)) s

tested : (b : ℕ) → b < 256 → pack 8 (λ i. get_or (lane b) i 0) ≡ Sbox b
unfolding sbox_table right lane circuit pack bit
tested b h = eqb→eq _ _ (rule_at right sbox_table tt b h)

outs_map : (n : ℕ) (e : List ℕ) → outs (map (bit n) e) ≡ map (bit n) (outs e)
outs_map n e = rw (lane-at n e 0, lane-at n e 1, lane-at n e 5, lane-at n e 19, lane-at n e 2, lane-at n e 7, lane-at n e 3, lane-at n e 4)

pub circuit_lanes : (x : List ℕ) → SboxLanes x (outs (run bit_xor bit_and circuit (ins x 0xffffffffffffffff)))
unfolding byte_lane lane
circuit_lanes x n h =
    let given = ins x 0xffffffffffffffff in
    let made = run bit_xor bit_and circuit given in
    let f : ℕ → ℕ = λ i. bit n (get_or x i 0) in
    let s : (i : ℕ) → f i < 2 = λ i. bit-small n (get_or x i 0) in
    let b = byte_lane x n in
    let p : (i : ℕ) → i < 8 → f i ≡ bit i b = λ i g. sym (bit-pack 8 f s i g) in
    let in_lane : map (bit n) given ≡ bits b =
    rw (
      p 0 (lit< tt),
      p 1 (lit< tt),
      p 2 (lit< tt),
      p 3 (lit< tt),
      p 4 (lit< tt),
      p 5 (lit< tt),
      p 6 (lit< tt),
      p 7 (lit< tt),
      ones_bit n h,
    ) in
    let out-lane : map (bit n) (outs made) ≡ lane b =
    sym (outs_map n made) ∙ ap outs (lane-run n circuit given ∙ ap (run differ min circuit) in_lane) in
    pack-same 8 (λ i. bit n (get_or (outs made) i 0)) (λ i. get_or (lane b) i 0)
    (λ i. sym (lane-at n (outs made) i) ∙ ap (λ (l : List ℕ). get_or l i 0) out-lane)
    ∙ tested b (pack-lt 8 f s)
