-- Which number a call answers: for each call the conditions of docs/REQUIREMENTS.md, a row each, in the order in which they are asked.
use Rattle.demands.specs.Names as N
use Rattle.std.specs.Prelude.{◌&&◌, ◌||◌, ◌++◌, ◌∷◌, ◌⊎◌, ◌≡◌, ◌%◌, ◌+◌, ◌-◌}
use N.{Bool, cond, false, not, true, List, [], map, ℕ, eqb, ltb, length, same, xors, Head, all_padding, cbc_text, last_byte, names_padding}
use N.{J0, hash_key, opens_under, limit, limit_of, mode_of, room_of, sealed_limit, CipherMode, Cbc, Cfb, Ctr, Gcm, Ofb, Direction, Decrypt}
use N.{Encrypt, hash_end, CtrState, Opens, Seal, any_too_long, bad_list, direction_of, LuossavinKey}

-- what a call says of a refusal: its number, and how many bytes were missing
pub record Said : Type 0 where
  pub number : ℕ
  pub missing : ℕ

abbrev pub said_in : Head → Said
said_in h = record { number = h.number; missing = h.missing }

abbrev pub only : ℕ → Said
only n = record { number = n; missing = 0 }

-- a condition, and what is said where it is the first to hold
pub record Row : Type 0 where
  pub holds : Bool
  pub says : Said

abbrev pub row : Bool → ℕ → Row
row holds n = record { holds = holds; says = only n }

-- What the first row says whose condition holds, 0 where none does: so a number is answered exactly when its condition holds
-- and no earlier one does.
abbrev pub first_of : List Row → Said
first_of [] = only 0
first_of (r ∷ rows) = cond r.holds r.says (first_of rows)

-- the numbers that a list of rows can give
abbrev pub numbers_of : List Row → List ℕ
numbers_of rows = 0 ∷ map (λ (r : Row). r.says.number) rows

abbrev pub Among : ℕ → List ℕ → Type 0
Among n [] = ⊥
Among n (k ∷ ks) = (n ≡ k) ⊎ Among n ks

abbrev pub is_cbc : CipherMode → Bool
is_cbc Cfb = false
is_cbc Ofb = false
is_cbc Ctr = false
is_cbc Cbc = true
is_cbc Gcm = false

abbrev pub is_gcm : CipherMode → Bool
is_gcm Cfb = false
is_gcm Ofb = false
is_gcm Ctr = false
is_gcm Cbc = false
is_gcm Gcm = true

-- setting up a key with the number n
abbrev pub new_rows : List ℕ → ℕ → List Row
new_rows key n =
    row (not (eqb (length key) 16)) 1
    ∷ row (eqb n 0 || ltb 65535 n) 13
    ∷ []

-- a host's record of no key, whatever its answer holds
abbrev pub key_rows : LuossavinKey → List Row
key_rows k =
    row (not (eqb k.answer 0) && not (eqb k.answer 13)) 1
    ∷ row (eqb k.answer 13) 13
    ∷ []

abbrev pub is_retired : LuossavinKey → Bool
is_retired k = not (eqb k.retired 0)

-- encrypting under a retired key; decryption has no such row
abbrev pub retired_rows : Direction → LuossavinKey → List Row
retired_rows Encrypt k = row (is_retired k) 14 ∷ []
retired_rows Decrypt k = []

-- the exported call on one block
abbrev pub block_rows : Direction → LuossavinKey → List ℕ → List ℕ → List Row
block_rows dir k b o =
    key_rows k
    ++ (row (not (eqb (length b) 16)) 11
    ∷ retired_rows dir k
    ++ (row (ltb (length o) 16) 6
    ∷ []))

-- the exported question which of many labels a file opens under
abbrev pub which_rows : LuossavinKey → List ℕ → List ℕ → List ℕ → List ℕ → List Row
which_rows k file iv labels lengths =
    row (bad_list labels lengths) 16
    ∷ key_rows k
    ++ (row (not (eqb (length iv) 12) && not (eqb (length iv) 16)) 10
    ∷ row (any_too_long lengths) 5
    ∷ row (ltb sealed_limit (length file)) 5
    ∷ record { holds = ltb (length file) 16; says = record { number = 9; missing = 16 - length file } }
    ∷ [])

-- the exported encryption of a message, and what it asks in its mode
abbrev pub encrypt_rows_in : CipherMode → LuossavinKey → List ℕ → List ℕ → List ℕ → List ℕ → List Row
encrypt_rows_in m k label d iv o =
    key_rows k
    ++ (row (not (eqb (length iv) 16) && not (is_gcm m && eqb (length iv) 12)) 10
    ∷ retired_rows Encrypt k
    ++ (row (is_gcm m && ltb limit (length label)) 5
    ∷ row (ltb limit (length d)) 5
    ∷ row (ltb (length o) (room_of m Encrypt (length d))) 6
    ∷ []))

abbrev pub encrypt_rows : ℕ → LuossavinKey → List ℕ → List ℕ → List ℕ → List ℕ → List Row
encrypt_rows mode k label d iv o = row (ltb 4 mode) 7 ∷ encrypt_rows_in (mode_of mode) k label d iv o

-- the exported decryption of a message, likewise
abbrev pub decrypt_rows_in : CipherMode → LuossavinKey → List ℕ → List ℕ → List ℕ → List ℕ → List Row
decrypt_rows_in m k label d iv o =
    let rk = k.round_keys in
    key_rows k
    ++ (row (not (eqb (length iv) 16) && not (is_gcm m && eqb (length iv) 12)) 10
    ∷ row (is_gcm m && ltb limit (length label)) 5
    ∷ row (ltb (limit_of Decrypt m) (length d)) 5
    ∷ row (is_cbc m && eqb (length d) 0) 8
    ∷ row (is_cbc m && not (eqb (length d % 16) 0)) 2
    ∷ record { holds = is_gcm m && ltb (length d) 16; says = record { number = 9; missing = 16 - length d } }
    ∷ row (ltb (length o) (room_of m Decrypt (length d))) 6
    ∷ row (is_cbc m && not (names_padding (last_byte (cbc_text rk iv d)))) 3
    ∷ row (is_cbc m && not (all_padding (cbc_text rk iv d))) 15
    ∷ row (is_gcm m && not (opens_under rk (hash_key rk) (J0 rk iv) label d)) 4
    ∷ [])

abbrev pub decrypt_rows : ℕ → LuossavinKey → List ℕ → List ℕ → List ℕ → List ℕ → List Row
decrypt_rows mode k label d iv o = row (ltb 4 mode) 7 ∷ decrypt_rows_in (mode_of mode) k label d iv o

-- Which number a call on a message in pieces answers: for each call the conditions, a row each, in the order in which they are
-- asked, for every value of a state.

-- the exported starts
abbrev pub ctr_start_rows : LuossavinKey → Bool → List ℕ → List Row
ctr_start_rows k decrypt iv =
    key_rows k
    ++ (row (not (eqb (length iv) 16)) 10
    ∷ retired_rows (direction_of decrypt) k)

-- Gcm, sealing or opening
abbrev pub gcm_start_rows : Direction → LuossavinKey → List ℕ → List ℕ → List Row
gcm_start_rows dir k label iv =
    key_rows k
    ++ (row (not (eqb (length iv) 12) && not (eqb (length iv) 16)) 10
    ∷ retired_rows dir k
    ++ (row (ltb limit (length label)) 5
    ∷ []))

-- what a state stands at: a refused start answers its refusal, and an ended message 12
abbrev pub stands_rows : ℕ → List Row
stands_rows stands =
    row (eqb stands 1) 1
    ∷ row (eqb stands 5) 5
    ∷ row (eqb stands 10) 10
    ∷ row (eqb stands 13) 13
    ∷ row (eqb stands 14) 14
    ∷ row (not (eqb stands 0)) 12
    ∷ []

-- and the lengths: n bytes more behind a total, under a label
abbrev pub running_rows : ℕ → ℕ → ℕ → ℕ → List Row
running_rows stands label total n =
    stands_rows stands
    ++ (row (ltb limit label) 5
    ∷ row (ltb limit (total + n)) 5
    ∷ [])

abbrev pub ctr_piece_rows : CtrState → List ℕ → List ℕ → List Row
ctr_piece_rows s e o = running_rows s.stands 0 s.total (length e) ++ (row (ltb (length o) (length e)) 6 ∷ [])

abbrev pub ctr_end_rows : CtrState → List Row
ctr_end_rows s = running_rows s.stands 0 s.total 0

abbrev pub seal_piece_rows : Seal → List ℕ → List ℕ → List Row
seal_piece_rows s e o = running_rows s.stands s.label s.total (length e) ++ (row (ltb (length o) (length e)) 6 ∷ [])

abbrev pub seal_end_rows : Seal → List ℕ → List Row
seal_end_rows s o = running_rows s.stands s.label s.total 0 ++ (row (ltb (length o) 16) 6 ∷ [])

abbrev pub opens_piece_rows : Opens → List ℕ → List Row
opens_piece_rows s e = running_rows s.stands s.label s.total (length e)

-- of a tag that is longer none is missing: 16 less more than 16 is 0
abbrev pub opens_end_rows : Opens → List ℕ → List Row
opens_end_rows s tag =
    running_rows s.stands s.label s.total 0
    ++ (record { holds = not (eqb (length tag) 16); says = record { number = 9; missing = 16 - length tag } }
    ∷ row (not (same tag (xors s.mask (hash_end s.hashing (s.total % 16) s.label s.total)))) 4
    ∷ [])
