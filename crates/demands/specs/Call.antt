-- Any call, true or an imposter's, by what it leaves.
use Rattle.demands.specs.Names as N
use Rattle.std.specs.Prelude.{◌≡◌}
use N.{List, ℕ, take, Outcome, Gcm, Sm4Cipher, Sm4CipherMode}

-- a call with its key: the outcome of a label, the data, an IV and the output as it was lent
abbrev pub Call : Type 0
Call = List ℕ → List ℕ → List ℕ → List ℕ → Outcome

-- a key's record in Gcm
abbrev pub in_gcm : Sm4Cipher → Sm4CipherMode
in_gcm c = record { cipher = c; mode = Gcm }

-- a single block's call is one that looks at neither label nor IV
abbrev pub single : (List ℕ → List ℕ → Outcome) → Call
single call label d iv o = call d o

-- the result of a call: the bytes of the output up to the length that it reports
abbrev pub result : Outcome → List ℕ
result x = take x.head.size x.bytes

-- the call was refused with the number n: it reports no bytes and none missing, and the output is o, as it was lent
pub record RefusedAs (n : ℕ) (o : List ℕ) (x : Outcome) : Type 0 where
  pub number : x.head.number ≡ n
  pub size : x.head.size ≡ 0
  pub missing : x.head.missing ≡ 0
  pub bytes : x.bytes ≡ o
