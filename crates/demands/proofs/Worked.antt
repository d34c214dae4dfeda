-- The worked table of docs/REQUIREMENTS.md and its edges hold of the definitions, by computation; and two blocks under a key are computed.
use Rattle.demands.specs.Names as N
use N.{Bool, false, true, List, [], ◌++◌, ◌∷◌, map, ◌≢◌, ◌∙◌, ◌≡◌, ap, refl, sym, ℕ, arith, get_or, length, replicate, ne_eqb, bytes_of}
use N.{number_of, same, unwords, words, gmul, mul_from, times_x, ctr_next, gcm_next, finished, telling, under, CK, L, L', T, T'}
use N.{encrypt_block, encrypt_words, keys_from, rotl, round_keys, rounds, sbox_table, tau, hash_from, all_padding, names_padding, unpadded}
use N.{refusal_head, lengths_of, mode_call, block_check, data_check, key_and_iv, message_check, room_check, new_cipher, Direction, Encrypt}
use N.{Key, Sm4CipherMode, Checked, Ok, Err, Head}
use Rattle.demands.specs.Worked.{Row, table}
use Rattle.demands.proofs.Answering.{head_behind, heads}
use Rattle.cipher_mode.proofs.Refusals.{refuses, quiet_refusal}
use Rattle.demands.specs.CameRound.{round_of, telling_done}
use Rattle.demands.specs.Edges.{Row as Edge, verdict, said_of, edges}
use Rattle.demands.proofs.ModesBack.{encrypts, length_encrypted}
use Rattle.demands.specs.OneBlockRefused.{MovesZero}

-- All twelve rows: what the definitions give is what docs/REQUIREMENTS.md says, whatever H is.
pub worked : (h : ℕ) → map (λ (r : Row). r.ours) (table h) ≡ map (λ (r : Row). r.paper) (table h)
unfolding CK number_of bytes_of sbox_table tau rotl L L' T T' ctr_next gcm_next times_x mul_from gmul hash_from names_padding
worked h = refl

-- "At the edges" of docs/REQUIREMENTS.md holds of the definitions, by computation, and what the checks say is what the calls answer.

-- All rows, whether the tag is right or not: what the definitions say is what docs/REQUIREMENTS.md says.
pub at_the_edges : (right : Bool) → map (λ (r : Edge). r.ours) (edges right) ≡ map (λ (r : Edge). r.paper) (edges right)
unfolding message_check block_check key_and_iv data_check room_check new_cipher names_padding all_padding unpadded same
at_the_edges true = refl
at_the_edges false = refl

verdict-refused : (k : Checked) (h : Head) (n : ℕ) → k ≢ Ok tt → head_behind k h ≡ verdict k n
unfolding head_behind
verdict-refused (Ok _) h n z = absurd (z refl)
verdict-refused (Err r) h n _ = refl

-- a refusal says nothing of a counter
verdict-done : (k : Checked) (n : ℕ) (b : Bool) → head_behind k (telling b (finished n)) ≡ telling_done b (verdict k n)
unfolding head_behind
verdict-done (Ok _) n b = refl
verdict-done (Err r) n b =
    rw (ne_eqb (refusal_head r).number 0 (refuses r).not-zero) (sym (quiet_refusal r))

-- Where the checks refuse, every call under a usable key with those lengths answers what is said, with the key's number.
pub edge_refused : (dir : Direction) (m : Sm4CipherMode) → m.cipher.answer ≡ Key → (label d iv o : List ℕ)
    → message_check Key m.cipher.retired dir m.mode (lengths_of label d iv o) ≢ Ok tt
    → (mode_call dir m label d iv o).head ≡ under m.cipher.number (said_of m.cipher.retired dir m.mode (lengths_of label d iv o))
unfolding mode_call
edge_refused dir m k label d iv o h = rw k (simp heads (ap (under m.cipher.number) (verdict-refused _ _ _ h)))

-- And of encryption it is the whole report, where done with what the formula of W8 says of a counter.
pub edge_encrypted : (m : Sm4CipherMode) → m.cipher.answer ≡ Key → (label d iv o : List ℕ)
    → (mode_call Encrypt m label d iv o).head
    ≡ under m.cipher.number
    (telling_done (round_of m.mode Encrypt m.cipher.rk iv (length d))
    (said_of m.cipher.retired Encrypt m.mode (lengths_of label d iv o)))
unfolding mode_call
edge_encrypted m k label d iv o =
    let round = round_of m.mode Encrypt m.cipher.rk iv (length d) in
    rw k (simp (heads, encrypts, length_encrypted) (ap (under m.cipher.number) (verdict-done _ _ round)))

-- Two blocks under the key of sixteen zero bytes, computed: demand 3's condition on keys is met, and imposters can be told.

pub zero-block : encrypt_block (round_keys (replicate 16 0)) (replicate 16 0)
    ≡ 0x9f ∷ 0x1f ∷ 0x7b ∷ 0xff ∷ 0x6f ∷ 0x55 ∷ 0x11 ∷ 0x38 ∷ 0x4d ∷ 0x94 ∷ 0x30 ∷ 0x53 ∷ 0x1e ∷ 0x53 ∷ 0x8f ∷ 0xd3 ∷ []
unfolding CK number_of bytes_of words unwords sbox_table tau rotl L L' T T' rounds keys_from round_keys encrypt_words encrypt_block
zero-block = refl

pub block-of-one : encrypt_block (round_keys (replicate 16 0)) (replicate 15 0 ++ (1 ∷ []))
    ≡ 0x23 ∷ 0x2f ∷ 0x0c ∷ 0xfe ∷ 0x30 ∷ 0x8b ∷ 0x49 ∷ 0xea ∷ 0x6f ∷ 0xc8 ∷ 0x82 ∷ 0x29 ∷ 0xb5 ∷ 0xdc ∷ 0x85 ∷ 0x8d ∷ []
unfolding CK number_of bytes_of words unwords sbox_table tau rotl L L' T T' rounds keys_from round_keys encrypt_words encrypt_block
block-of-one = refl

-- The key of sixteen zero bytes does not encrypt the all-zero block to itself: there are keys that demand 3 speaks of.
pub zero-key_moves : MovesZero (round_keys (replicate 16 0))
zero-key_moves e = omega (arith, ap (λ (b : List ℕ). get_or b 0 0) (sym zero-block ∙ e))
