-- Two servers each hold half a long draft: what their hashes give when they are joined, as properties of any calls that hash bytes in
-- blocks and join two hashes.
use Rattle.demands.specs.Names as N
use Rattle.std.specs.Prelude.{◌++◌, ◌≡◌, ◌%◌, ◌*◌, ◌+◌, ◌<◌, ◌^◌}
use N.{cond, List, ℕ, eqb, length, replicate, bytes_of, number_of, xors, block_count, Encrypt, value, hash_of, host_hash_blocks}
use N.{host_hash_join, host_block_call, host_mode_call, U128, LuossavinKey}
use Rattle.demands.specs.Call.{result}
use Rattle.demands.specs.CameRound.{followed_by}

abbrev pub Hashes : Type 0
Hashes = U128 → List ℕ → U128

abbrev pub Joins : Type 0
Joins = U128 → U128 → U128 → ℕ → U128

-- a value that a host can hold: two halves of 64 bits
pub record IsValue (h : U128) : Type 0 where
  pub high : h.high < 2 ^ 64
  pub low : h.low < 2 ^ 64

abbrev pub WholeBlocks : List ℕ → Type 0
WholeBlocks a = length a % 16 ≡ 0

-- each half hashed by itself, and joined by the second's block count
abbrev pub hash_of_halves : Hashes → Joins → U128 → List ℕ → List ℕ → U128
hash_of_halves hash join h a b = join h (hash h a) (hash h b) (block_count (length b))

-- where the first half is whole blocks, that is the hash of both; either half may be empty
abbrev pub JoinsHalves : Hashes → Joins → Type 0
JoinsHalves hash join =
    (h : U128) → IsValue h → (a b : List ℕ) → WholeBlocks a → hash_of_halves hash join h a b ≡ hash h (a ++ b)

-- What a host makes of a tag by exported calls alone. Sixteen bytes, encrypted under a key's record:
abbrev pub enciphered : LuossavinKey → List ℕ → List ℕ
enciphered k b = result (host_block_call Encrypt k b (replicate 16 0))

-- H: the cipher of sixteen zero bytes, as a value
abbrev pub key_of_hash : LuossavinKey → U128
key_of_hash k = hash_of (number_of (enciphered k (replicate 16 0)))

-- a value as sixteen bytes
abbrev pub bytes_in : U128 → List ℕ
bytes_in r = bytes_of 16 (value r)

-- two numbers of 8 bytes each
abbrev pub pair : ℕ → ℕ → List ℕ
pair a b = bytes_of 8 a ++ bytes_of 8 b

-- J0: a 12-byte IV and then 00000001, or the hash of a 16-byte IV and of the number 128
abbrev pub counter_of : U128 → List ℕ → List ℕ
counter_of h iv = cond (eqb (length iv) 12) (followed_by 1 iv) (bytes_in (host_hash_blocks h (iv ++ pair 0 128)))

-- the hashes of the label, of the ciphertext's two halves and of the lengths in bits, joined from left to right
abbrev pub hash_of_all : U128 → List ℕ → List ℕ → List ℕ → U128
hash_of_all h label a b =
    let hash = host_hash_blocks h in
    let first = host_hash_join h (hash label) (hash a) (block_count (length a)) in
    let both = host_hash_join h first (hash b) (block_count (length b)) in
    host_hash_join h both (hash (pair (8 * length label) (8 * (length a + length b)))) 1

-- the cipher of J0, xored with that
abbrev pub tag_of_halves : LuossavinKey → List ℕ → List ℕ → List ℕ → List ℕ → List ℕ
tag_of_halves k label iv a b =
    let h = key_of_hash k in
    xors (enciphered k (counter_of h iv)) (bytes_in (hash_of_all h label a b))

-- whenever sealing answers 0, and its ciphertext is cut at a block's end into a and b, that is the tag t behind them
abbrev pub TagsByHalves : LuossavinKey → Type 0
TagsByHalves k =
    (label d iv o a b t : List ℕ) → (host_mode_call Encrypt 4 k label d iv o).head.number ≡ 0
    → result (host_mode_call Encrypt 4 k label d iv o) ≡ (a ++ b) ++ t → length t ≡ 16 → WholeBlocks a
    → tag_of_halves k label iv a b ≡ t
