-- How many hash keys could ever confuse two files, as properties of any hash of a label and a ciphertext. Here H is any element
-- of the field, whether or not a key encrypts the zero block to it.
use Rattle.demands.specs.Names as N
use Rattle.std.specs.Prelude.{◌++◌, ◌∷◌, ◌≢◌, ◌≡◌, ◌+◌, ◌<◌, ◌^◌, ◌≤◌}
use N.{List, [], max, ℕ, length, replicate, AreBytes, block_count, blocks, ghash, AtMost, FewerThanOneIn, Having, Confuses, Pair, PairHash}
use N.{hashed_count, pair_hash, limit, label_of}
use Rattle.demands.specs.Call.{Call, RefusedAs}

-- label and ciphertext are bytes, and neither has more than 16,777,216
pub record WithinLimits (p : Pair) : Type 0 where
  pub label-bytes : AreBytes p.label
  pub ciphertext-bytes : AreBytes p.ciphertext
  pub label-limit : length p.label ≤ limit
  pub ciphertext-limit : length p.ciphertext ≤ limit

-- Two different pairs within the limits are confused by no more H than the larger of their block counts.
abbrev pub FewKeysConfuse : PairHash → Type 0
FewKeysConfuse hash =
    (p q : Pair) → WithinLimits p → WithinLimits q → p ≢ q → AtMost (max (hashed_count p) (hashed_count q)) (Confuses hash p q)

-- Zero is always among them.
abbrev pub ZeroKeyConfuses : PairHash → Type 0
ZeroKeyConfuses hash = (p q : Pair) → Confuses hash p q 0

-- Whatever their lengths are, there are at most 2,097,153 such H, which is fewer than one in 10^32.
abbrev pub RarelyConfused : PairHash → Type 0
RarelyConfused hash =
    (p q : Pair) → WithinLimits p → WithinLimits q → p ≢ q
    → AtMost 2097153 (Confuses hash p q) × FewerThanOneIn (10 ^ 32) (Confuses hash p q)

-- the ciphertext c under the label of a job and an edition
abbrev pub under : ℕ → ℕ → List ℕ → Pair
under job edition c = record { label = label_of job edition; ciphertext = c }

-- Under the labels of jobs and editions, where the ciphertexts have up to n bytes, there are at most n / 16, rounded up, and 2.
abbrev pub FewConfuseEditions : PairHash → Type 0
FewConfuseEditions hash =
    (job₁ job₂ edition₁ edition₂ n : ℕ) (c₁ c₂ : List ℕ)
    → job₁ < 2 ^ 32 → job₂ < 2 ^ 32 → edition₁ < 2 ^ 16 → edition₂ < 2 ^ 16
    → AreBytes c₁ → AreBytes c₂ → length c₁ ≤ n → length c₂ ≤ n → n ≤ limit
    → ¬ ((job₁ ≡ job₂) × (edition₁ ≡ edition₂) × (c₁ ≡ c₂))
    → AtMost (block_count n + 2) (Confuses hash (under job₁ edition₁ c₁) (under job₂ edition₂ c₂))

-- no label, and the ciphertext 80 and fifteen 00; no label and no ciphertext
abbrev pub one_block : Pair
one_block = record { label = []; ciphertext = 0x80 ∷ replicate 15 0 }

abbrev pub nothing : Pair
nothing = record { label = []; ciphertext = [] }

-- The larger block count is reached: these two have 2 and 1, and two H confuse them, 0 and 128, which is fifteen 00 and 80.
pub record BoundReached (hash : PairHash) : Type 0 where
  pub confused : Having (Confuses hash one_block nothing) (0 ∷ 128 ∷ [])
  pub count : max (hashed_count one_block) (hashed_count nothing) ≡ 2

-- What that says of a call that opens sealed messages under h: if a pair opens with a tag t, then another that h does not confuse
-- with it, with the same tag, under the same IV and given room, is refused as 4.
abbrev pub UnconfusedRefused : ℕ → Call → Type 0
UnconfusedRefused h opening =
    (p q : Pair) (t iv o₁ o₂ : List ℕ) → WithinLimits q → length t ≡ 16 → length q.ciphertext ≤ length o₂
    → ¬ Confuses pair_hash p q h
    → (opening p.label (p.ciphertext ++ t) iv o₁).head.number ≡ 0
    → RefusedAs 4 o₂ (opening q.label (q.ciphertext ++ t) iv o₂)

-- a hash that leaves out the length block
abbrev pub without_lengths : PairHash
without_lengths h p = ghash h (blocks p.label ++ blocks p.ciphertext)
