-- Demand 2 as a property of any two calls: the second takes back what the first did.
use Rattle.demands.specs.Names as N
use Rattle.std.specs.Prelude.{◌⊎◌, ◌≡◌, ◌≤◌}
use N.{List, ℕ, length, AreBytes, Outcome, limit, room_of, CipherMode, Cbc, Gcm, Decrypt, Encrypt, LuossavinKey}
use Rattle.demands.specs.Call.{Call, result}

-- the same key: the same round keys, and set up with the same answer. Its number, its engine and whether it is retired may be others.
pub record SameKey (k later : LuossavinKey) : Type 0 where
  pub keys : later.round_keys ≡ k.round_keys
  pub answer : later.answer ≡ k.answer

-- the call answered 0, with the message d and its length
pub record Returns (d : List ℕ) (x : Outcome) : Type 0 where
  pub number : x.head.number ≡ 0
  pub size : x.head.size ≡ length d
  pub message : result x ≡ d

-- what decryption asks of n bytes that encryption gave, and of the output: room
abbrev pub Decryptable : CipherMode → ℕ → List ℕ → Type 0
Decryptable mode n o = room_of mode Decrypt n ≤ length o

-- what encryption asks of n bytes that decryption gave: room, and in Cbc that they are no more than may be encrypted, since a full
-- message with a padding of 1 to 15 bytes gives more; in the other modes decryption's own limit sees to it
abbrev pub Encryptable : CipherMode → ℕ → List ℕ → Type 0
Encryptable mode n o = (mode ≡ Cbc → n ≤ limit) × (room_of mode Encrypt n ≤ length o)

-- a single block asks for its sixteen bytes
abbrev pub Sixteen : ℕ → List ℕ → Type 0
Sixteen n o = 16 ≤ length o

-- Whenever `there` answers 0, `back`, given its result, the same label and IV, and an output o' as it asks for, answers 0 with the
-- data that `there` was given.
abbrev pub ThereAndBack : (ℕ → List ℕ → Type 0) → Call → Call → Type 0
ThereAndBack Asks there back =
    (label d iv o o' : List ℕ) → AreBytes d → AreBytes iv
    → (there label d iv o).head.number ≡ 0
    → Asks (there label d iv o).head.size o'
    → Returns d (back label (result (there label d iv o)) iv o')

-- Whoever asks in order is served, as a property of any calls: a library that refuses everything does not have it.

-- the call answered 0 with n bytes
pub record Serves (n : ℕ) (x : Outcome) : Type 0 where
  pub number : x.head.number ≡ 0
  pub size : x.head.size ≡ n

-- a message to encrypt in a mode: IV and lengths within the limits, and the table's room
pub record Asks (mode : CipherMode) (label d iv o : List ℕ) : Type 0 where
  pub iv-size : (length iv ≡ 16) ⊎ ((mode ≡ Gcm) × (length iv ≡ 12))
  pub label-fits : mode ≡ Gcm → length label ≤ limit
  pub data-fits : length d ≤ limit
  pub room : room_of mode Encrypt (length d) ≤ length o

-- Encryption answers 0 with the table's length, and decryption of what it gave, given room, answers 0 with the message's.
pub record Served (mode : CipherMode) (encryption decryption : Call) : Type 0 where
  pub sealing : (label d iv o : List ℕ) → Asks mode label d iv o → Serves (room_of mode Encrypt (length d)) (encryption label d iv o)
  pub opening : (label d iv o o' : List ℕ) → Asks mode label d iv o → AreBytes d → AreBytes iv
      → room_of mode Decrypt (room_of mode Encrypt (length d)) ≤ length o'
      → Serves (length d) (decryption label (result (encryption label d iv o)) iv o')

-- a single block is served with its sixteen bytes
abbrev pub BlockServed : Call → Type 0
BlockServed call = (label b iv o : List ℕ) → length b ≡ 16 → 16 ≤ length o → Serves 16 (call label b iv o)
