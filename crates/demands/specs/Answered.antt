-- Demand 1 as a property of an outcome: what a caller may count on, refused or done.
use Rattle.demands.specs.Names as N
use Rattle.std.specs.Prelude.{◌||◌, ◌∷◌, ◌≢◌, ◌⊎◌, ◌≡◌, ◌*◌, ◌+◌, ◌-◌, ◌/◌, ◌<◌, ◌≤◌}
use N.{Bool, false, true, List, [], ℕ, eqb, drop, length, Outcome, finished, refusal, round_keys, cbc_text, last_byte, key_head, key_number}
use N.{CipherMode, Cbc, Cfb, Ctr, Gcm, Ofb, Direction, Decrypt, Encrypt, Sm4Cipher}

-- whether a number is one of a list
abbrev pub one_of : ℕ → List ℕ → Bool
one_of n [] = false
one_of n (k ∷ ks) = eqb n k || one_of n ks

-- the numbers that a single call can answer: 12 is of messages in pieces alone
abbrev pub single_numbers : List ℕ
single_numbers = 0 ∷ 1 ∷ 2 ∷ 3 ∷ 4 ∷ 5 ∷ 6 ∷ 7 ∷ 8 ∷ 9 ∷ 10 ∷ 11 ∷ 13 ∷ 14 ∷ 15 ∷ []

-- x is an answer to a call on the key of number k whose output was lent as o, and of which the table of lengths gives the length n
pub record Answered (numbers : List ℕ) (k : ℕ) (o : List ℕ) (n : ℕ) (x : Outcome) : Type 0 where
  -- the number is one of those that the call can answer
  pub numbered : one_of x.head.number numbers ≡ true
  -- refused or done, the key's number is repeated
  pub key : x.head.key ≡ k
  -- only refusal 9 tells that bytes were missing
  pub missing : x.head.number ≢ 9 → x.head.missing ≡ 0
  -- every refusal reports length 0 and changes no byte of the output
  pub refused : x.head.number ≢ 0 → (x.head.size ≡ 0) × (x.bytes ≡ o)
  -- every success reports the table's length, which the output has room for
  pub reported : x.head.number ≡ 0 → x.head.size ≡ n
  pub fits : x.head.size ≤ length o
  -- after a success the bytes past that length are the ones lent
  pub past : x.head.number ≡ 0 → drop x.head.size x.bytes ≡ drop x.head.size o
  -- the output is as long as it was
  pub kept : length x.bytes ≡ length o

-- c is the record that setting up the key with the number n gives: it lends no output, and reports length 0, done or refused
pub record KeyAnswered (key : List ℕ) (n : ℕ) (c : Sm4Cipher) : Type 0 where
  pub done : length key ≡ 16 → 1 ≤ n → n ≤ 65535 → (key_head c.answer ≡ finished 0) × (key_number c ≡ n) × (c.rk ≡ round_keys key)
  pub refused : length key ≢ 16 → key_head c.answer ≡ refusal 1
  pub out_of_range : length key ≡ 16 → (n ≡ 0) ⊎ (65535 < n) → key_head c.answer ≡ refusal 13
  -- a record set up anew is unretired
  pub fresh : c.retired ≡ false

-- the table of lengths: the length on success, which in Cbc decryption is less by the last decrypted byte
abbrev pub length_of : CipherMode → Direction → List ℕ → List ℕ → List ℕ → ℕ
length_of Cfb dir rk iv d = length d
length_of Ofb dir rk iv d = length d
length_of Ctr dir rk iv d = length d
length_of Cbc Encrypt rk iv d = 16 * (length d / 16 + 1)
length_of Cbc Decrypt rk iv d = length d - last_byte (cbc_text rk iv d)
length_of Gcm Encrypt rk iv d = length d + 16
length_of Gcm Decrypt rk iv d = length d - 16
