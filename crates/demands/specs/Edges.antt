-- "At the edges" of docs/REQUIREMENTS.md, with the numbers of W1: what the definitions say of a call with these lengths, whatever its
-- bytes are, beside docs/REQUIREMENTS.md.
use Rattle.demands.specs.Names as N
use Rattle.std.specs.Prelude.{◌++◌, ◌∷◌, ◌-◌}
use N.{Bool, cond, false, true, List, [], map, ℕ, replicate, Head, cut_short, finished, refusal, cbc_head, unpadded, gcm_head, refusal_head}
use N.{block_check, message_check, key_head, new_cipher, room_of, CipherMode, Cbc, Cfb, Ctr, Gcm, Ofb, Direction, Decrypt, Encrypt, Key}
use N.{Checked, Ok, Err, Lengths}

-- a message of so many bytes, under an IV of so many, without a label, with so much room
abbrev pub sizes : ℕ → ℕ → ℕ → Lengths
sizes iv d room = record { iv = iv; label = 0; «data» = d; room = room }

-- what the checks say: a refusal, or that the call goes on, with the table's room
abbrev pub verdict : Checked → ℕ → Head
verdict (Ok _) n = finished n
verdict (Err r) n = refusal_head r

-- under a key, retired or not
abbrev pub said_of : Bool → Direction → CipherMode → Lengths → Head
said_of retired dir m n = verdict (message_check Key retired dir m n) (room_of m dir n.«data»)

abbrev pub said : Direction → CipherMode → Lengths → Head
said dir m n = said_of false dir m n

-- a single block, under a retired key
abbrev retired_block : Direction → ℕ → ℕ → Head
retired_block dir n room = verdict (block_check Key true dir n room) 16

-- setting up a key of so many bytes with a number
abbrev set_up : ℕ → ℕ → Head
set_up bytes n = key_head (new_cipher (replicate bytes 0) n).answer

pub record Row : Type 0 where
  pub ours : Head
  pub paper : Head

abbrev row : Head → Head → Row
row ours paper = record { ours = ours; paper = paper }

-- an IV of so many bytes is refused as 10 in these modes, in each direction
abbrev wrong_iv : ℕ → List CipherMode → List Row
wrong_iv n modes =
    map (λ (m : CipherMode). row (said Encrypt m (sizes n 32 48)) (refusal 10)) modes
    ++ map (λ (m : CipherMode). row (said Decrypt m (sizes n 32 48)) (refusal 10)) modes

-- right says whether a tag is the message's
abbrev pub edges : Bool → List Row
edges right =
    -- Cbc of 0 bytes gives 16, of 15 gives 16, of 16 gives 32
    row (said Encrypt Cbc (sizes 16 0 16)) (finished 16)
    ∷ row (said Encrypt Cbc (sizes 16 15 16)) (finished 16)
    ∷ row (said Encrypt Cbc (sizes 16 16 32)) (finished 32)
    -- Cbc decryption of 16 bytes that are 10 hex once decrypted is done with length 0; where only the last one is, it is 15
    ∷ row (cbc_head (unpadded (replicate 16 0x10))) (finished 0)
    ∷ row (cbc_head (unpadded (replicate 15 0 ++ (0x10 ∷ [])))) (refusal 15)
    -- a padding of two is told by both its bytes, and one of one by itself; 0 and 11 hex name none
    ∷ row (cbc_head (unpadded (replicate 14 0 ++ (2 ∷ 2 ∷ [])))) (finished 14)
    ∷ row (cbc_head (unpadded (replicate 15 0 ++ (2 ∷ [])))) (refusal 15)
    ∷ row (cbc_head (unpadded (replicate 15 0 ++ (1 ∷ [])))) (finished 15)
    ∷ row (cbc_head (unpadded (replicate 16 0))) (refusal 3)
    ∷ row (cbc_head (unpadded (replicate 16 0x11))) (refusal 3)
    -- Gcm decryption of 15 bytes is 9 with 1 missing, of none with 16; of 16 bytes it is done with length 0, or 4
    ∷ row (said Decrypt Gcm (sizes 16 15 16)) (cut_short 1)
    ∷ row (said Decrypt Gcm (sizes 16 0 16)) (cut_short 16)
    ∷ row (said Decrypt Gcm (sizes 16 16 0)) (finished 0)
    ∷ row (gcm_head right (16 - 16)) (cond right (finished 0) (refusal 4))
    -- Gcm encryption of nothing is done, and so is Cbc's; Cbc decryption of nothing is 8, of 17 bytes 2
    ∷ row (said Encrypt Gcm (sizes 16 0 16)) (finished 16)
    ∷ row (said Decrypt Cbc (sizes 16 0 16)) (refusal 8)
    ∷ row (said Decrypt Cbc (sizes 16 17 17)) (refusal 2)
    -- a wrong IV with short data is 10, with nothing missing
    ∷ row (said Decrypt Gcm (sizes 13 3 16)) (refusal 10)
    -- Cbc decryption of 16,777,233 bytes is 5 and not 2
    ∷ row (said Decrypt Cbc (sizes 16 16777233 16777233)) (refusal 5)
    -- room one byte short is 6, even where the padding would also be bad
    ∷ row (said Decrypt Cbc (sizes 16 16 15)) (refusal 6)
    -- Gcm takes a 12-byte IV, and the other modes refuse it as 10
    ∷ row (said Encrypt Gcm (sizes 12 32 48)) (finished 48)
    ∷ row (said Decrypt Gcm (sizes 12 32 48)) (finished 16)
    -- a retired key decrypts in every mode, and encrypts in none
    ∷ row (said_of true Decrypt Cfb (sizes 16 5 5)) (finished 5)
    ∷ row (said_of true Decrypt Ofb (sizes 16 5 5)) (finished 5)
    ∷ row (said_of true Decrypt Ctr (sizes 16 5 5)) (finished 5)
    ∷ row (said_of true Decrypt Cbc (sizes 16 16 16)) (finished 16)
    ∷ row (said_of true Decrypt Gcm (sizes 16 16 0)) (finished 0)
    ∷ row (said_of true Encrypt Ofb (sizes 16 5 5)) (refusal 14)
    ∷ row (said_of true Encrypt Ctr (sizes 16 5 5)) (refusal 14)
    -- 14 comes after a wrong IV or block, and before the limit and the room
    ∷ row (said_of true Encrypt Gcm (sizes 13 5 21)) (refusal 10)
    ∷ row (said_of true Encrypt Gcm (sizes 12 16777217 0)) (refusal 14)
    ∷ row (said_of true Encrypt Cbc (sizes 16 5 0)) (refusal 14)
    ∷ row (retired_block Encrypt 15 16) (refusal 11)
    ∷ row (retired_block Encrypt 16 0) (refusal 14)
    ∷ row (retired_block Decrypt 16 16) (finished 16)
    -- a key's number is 1 to 65,535, and is looked at after the key
    ∷ row (set_up 16 0) (refusal 13)
    ∷ row (set_up 16 1) (finished 0)
    ∷ row (set_up 16 65535) (finished 0)
    ∷ row (set_up 16 65536) (refusal 13)
    ∷ row (set_up 15 0) (refusal 1)
    ∷ (wrong_iv 12 (Cfb ∷ Ofb ∷ Ctr ∷ Cbc ∷ [])
    -- an IV of any other length is 10 in Gcm too
    ++ (wrong_iv 17 (Cfb ∷ Ofb ∷ Ctr ∷ Cbc ∷ Gcm ∷ [])
    ++ (wrong_iv 0 (Gcm ∷ []) ++ (wrong_iv 11 (Gcm ∷ []) ++ (wrong_iv 13 (Gcm ∷ []) ++ wrong_iv 15 (Gcm ∷ []))))))
