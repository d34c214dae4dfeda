-- The worked table of docs/REQUIREMENTS.md, P1 to P12: what the definitions give, beside what docs/REQUIREMENTS.md says.
use Rattle.demands.specs.Names as N
use Rattle.std.specs.Prelude.{◌++◌, ◌∷◌}
use N.{Bool, false, true, List, [], ℕ, replicate, bytes_of, number_of, gmul, ctr_next, gcm_next, CK, L, L', T, T', ghash, padding}
use N.{names_padding}

-- a word or a hash, a list of bytes, or what is accepted
pub data Value : Type 0 where
  number : ℕ → Value
  bytes : List ℕ → Value
  accepted : List Bool → Value

pub record Row : Type 0 where
  pub ours : Value
  pub paper : Value

abbrev row : Value → Value → Row
row ours paper = record { ours = ours; paper = paper }

-- the product of two elements of the field, as sixteen bytes each
abbrev times : List ℕ → List ℕ → List ℕ
times a b = bytes_of 16 (gmul (number_of a) (number_of b))

-- h is any H
abbrev pub table : ℕ → List Row
table h =
    -- P1: entry 8 of CK
    row (number (CK 8)) (number 0xe0e7eef5)
    -- P2, P3, P4, P5: L, L', T and T'
    ∷ row (number (L 1)) (number 0x01040405)
    ∷ row (number (L' 1)) (number 0x00802001)
    ∷ row (number (T 0)) (number 0x5b5b5b5b)
    ∷ row (number (T' 0)) (number 0x67676767)
    -- P6: the Ctr step wraps over all sixteen bytes
    ∷ row (bytes (ctr_next (replicate 16 0xff))) (bytes (replicate 16 0))
    -- P7: the Gcm step wraps over the last four
    ∷ row (bytes (gcm_next (replicate 12 0x11 ++ replicate 4 0xff))) (bytes (replicate 12 0x11 ++ replicate 4 0))
    -- P8, P9: two products of the field
    ∷ row (bytes (times (0x40 ∷ replicate 15 0) (replicate 15 0 ++ (1 ∷ [])))) (bytes (0xe1 ∷ replicate 15 0))
    ∷ row (bytes (times (0x80 ∷ replicate 15 0) (0x0f ∷ replicate 15 0))) (bytes (0x0f ∷ replicate 15 0))
    -- P10: the hash of no blocks
    ∷ row (number (ghash h [])) (number 0)
    -- P11: the padding for 13 bytes
    ∷ row (bytes (padding 13)) (bytes (3 ∷ 3 ∷ 3 ∷ []))
    -- P12: a last byte of 10 hex is accepted, of 11 hex and of 00 refused
    ∷ row (accepted (names_padding 0x10 ∷ names_padding 0x11 ∷ names_padding 0 ∷ [])) (accepted (true ∷ false ∷ false ∷ []))
    ∷ []
