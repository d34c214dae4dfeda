-- Demand 3 as a property of any call that opens sealed messages: one changed block is refused.
use Rattle.demands.specs.Names as N
use Rattle.std.specs.Prelude.{◌++◌, ◌∷◌, ◌≢◌, ◌⊎◌, ◌≡◌, ◌%◌, ◌+◌, ◌<◌, ◌^◌, ◌≤◌}
use N.{List, [], ℕ, length, replicate, AreBytes, encrypt_block, OneBlock, label_of}
use Rattle.demands.specs.Call.{Call, RefusedAs}

-- under the round keys rk the all-zero block is not encrypted to itself
abbrev pub MovesZero : List ℕ → Type 0
MovesZero rk = encrypt_block rk (replicate 16 0) ≢ replicate 16 0

-- Two sealed messages have the same tag t, and either their labels are the same and their ciphertexts differ inside exactly
-- one block, or the other way about. If the first opens, the second, under the same IV and with as long an output, is
-- refused as 4.
abbrev pub OneBlockRefused : Call → Type 0
OneBlockRefused opening =
    (a₁ a₂ c₁ c₂ t iv o₁ o₂ : List ℕ) → AreBytes a₁ → AreBytes a₂ → AreBytes c₁ → AreBytes c₂
    → length t ≡ 16 → length o₁ ≡ length o₂
    → ((a₁ ≡ a₂) × OneBlock c₁ c₂) ⊎ ((c₁ ≡ c₂) × OneBlock a₁ a₂)
    → (opening a₁ (c₁ ++ t) iv o₁).head.number ≡ 0
    → RefusedAs 4 o₂ (opening a₂ (c₂ ++ t) iv o₂)

-- What the demands were for, as a property of any call that opens sealed messages.

-- A file that opens under one job and edition is refused as 4 under another job or another edition, under the same IV and
-- with as long an output. A job is a number of four bytes, an edition one of two.
abbrev pub OtherEditionRefused : Call → Type 0
OtherEditionRefused opening =
    (job₁ job₂ edition₁ edition₂ : ℕ) (file iv o₁ o₂ : List ℕ)
    → job₁ < 2 ^ 32 → job₂ < 2 ^ 32 → edition₁ < 2 ^ 16 → edition₂ < 2 ^ 16
    → (job₁ ≢ job₂) ⊎ (edition₁ ≢ edition₂) → length o₁ ≡ length o₂
    → (opening (label_of job₁ edition₁) file iv o₁).head.number ≡ 0
    → RefusedAs 4 o₂ (opening (label_of job₂ edition₂) file iv o₂)

-- The trailing zero, as properties of any call that opens sealed messages.

-- If a file opens under a label whose length is not divisible by 16, then under that label with one zero byte more, with
-- as long an output, it is refused as 4.
abbrev pub LabelZeroRefused : Call → Type 0
LabelZeroRefused opening =
    (a file iv o₁ o₂ : List ℕ) → length a % 16 ≢ 0 → length o₁ ≡ length o₂
    → (opening a file iv o₁).head.number ≡ 0
    → RefusedAs 4 o₂ (opening (a ++ (0 ∷ [])) file iv o₂)

-- If a file of a ciphertext c, whose length is not divisible by 16, and a tag t opens, then the file with one zero byte more
-- between the two, given room for it, is refused as 4.
abbrev pub TextZeroRefused : Call → Type 0
TextZeroRefused opening =
    (a c t iv o₁ o₂ : List ℕ) → length t ≡ 16 → length c % 16 ≢ 0 → length c + 1 ≤ length o₂
    → (opening a (c ++ t) iv o₁).head.number ≡ 0
    → RefusedAs 4 o₂ (opening a (c ++ (0 ∷ []) ++ t) iv o₂)
