-- Hashes of halves, joined: over the exported calls they are the hash of the whole, and with two encrypted blocks they make the tag that
-- the single call makes.
use Rattle.demands.specs.Names as N
use N.{false, List, [], ◌++◌, ◌∷◌, append_assoc, ⊎_elim, ◌∙◌, ◌≡◌, refl, sym, ◌*◌, ◌/◌, ℕ, div-add-mod', arith, length, length-append}
use N.{replicate, eq-eqb, bytes_of, number_of, Element, encrypt_block, auth_blocks, blocks, ghash, length_block, joined, J0, first_counter}
use N.{hash_key, sealed, tag_of, text_of, retired_check, wrong_iv, mode_of, Gcm, Encrypt, Key, Ok, value, hash_of, host_hash_blocks}
use N.{host_hash_join, host_block_call, host_mode_call, cipher_in, LuossavinKey}
use Rattle.block.proofs.Convert.{length-bytes_of}
use Rattle.field.proofs.Bounded.{whole-lt}
use Rattle.ghash.proofs.Blocks.{blocks_full, blocks-append, length-blocks}
use Rattle.ghash.proofs.JoinedBytes.{joins, joins_bytes}
use Rattle.gcm.proofs.HashKey.{hash_key-lt}
use Rattle.gcm.proofs.Parts.{parts-text, parts-tag, sealed-text, sealed-tag}
use Rattle.cipher_mode.proofs.Passed.{iv_twelve_or_sixteen}
use Rattle.demands.specs.Call.{in_gcm}
use Rattle.demands.specs.Halves.{WholeBlocks, JoinsHalves, enciphered, key_of_hash, pair, counter_of, hash_of_all, tag_of_halves}
use Rattle.demands.specs.Halves.{TagsByHalves}
use Rattle.demands.proofs.CameRound.{length_counter}
use Rattle.demands.proofs.Through.{result-of-done, through, leaves, block-leaves}

-- a value that a number is is that number
value_back : (n : ℕ) → value (hash_of n) ≡ n
value_back n = div-add-mod' n _

-- Where the first half is whole blocks, the halves' hashes joined are the hash of both.
pub joined-halves : JoinsHalves host_hash_blocks host_hash_join
unfolding host_hash_blocks host_hash_join
joined-halves h v a b whole =
    simp (value_back, joins_bytes (value h) (whole-lt h.high h.low v.high v.low) (length a / 16) a b (omega arith))

pair-block : (m n : ℕ) → blocks (pair (8 * m) (8 * n)) ≡ length_block m n ∷ []
unfolding length_block
pair-block m n = blocks_full (pair (8 * m) (8 * n)) (simp (length-append, length-bytes_of))

-- under the value of an element
module _ (h : ℕ) (element : Element h) where
  -- one more block
  joins_block : (xs : List ℕ) (y : ℕ) → joined h (ghash h xs) (ghash h (y ∷ [])) 1 ≡ ghash h (xs ++ (y ∷ []))
  joins_block xs y = joins h element xs (y ∷ [])

  -- label, halves and lengths
  all_joined : (label a b : List ℕ) → WholeBlocks a → hash_of_all (hash_of h) label a b ≡ hash_of (ghash h (auth_blocks label (a ++ b)))
  unfolding auth_blocks host_hash_blocks host_hash_join
  all_joined label a b whole =
      let cut = blocks-append (length a / 16) a b (omega arith) in
      simp (value_back, ← length-blocks, joins h element, joins_block, pair-block, append_assoc, cut, length-append)

  counter_is : (iv : List ℕ) → wrong_iv Gcm (length iv) ≡ false → counter_of (hash_of h) iv ≡ first_counter h iv
  unfolding first_counter host_hash_blocks
  counter_is iv e =
      let number : length_block 0 16 ≡ 128 = unfold length_block number_of bytes_of in refl in
      ⊎_elim (λ n. rw (eq-eqb (length iv) 12 n))
      (λ n. simp (value_back, blocks-append 1 iv (pair 0 128) n, blocks_full iv n, pair-block 0 16, number))
      (iv_twelve_or_sixteen (length iv) e)

-- a usable and unretired key encrypts a block
module _ (k : LuossavinKey) (usable : (cipher_in k).answer ≡ Key) (may : retired_check Encrypt (cipher_in k).retired ≡ Ok tt) where
  enciphers : (b : List ℕ) → length b ≡ 16 → enciphered k b ≡ encrypt_block (cipher_in k).rk b
  unfolding host_block_call
  enciphers b n =
      let room : List ℕ = replicate 16 0 in
      rw (block-leaves Encrypt (cipher_in k) b room (record { key = usable; size = n; may = may; enough = omega arith }))
      (result-of-done (encrypt_block (cipher_in k).rk b) room)

  key_is : key_of_hash k ≡ hash_of (hash_key (cipher_in k).rk)
  unfolding hash_key
  key_is = rw (enciphers (replicate 16 0) refl)

  tag_is : (label iv a b : List ℕ) → wrong_iv Gcm (length iv) ≡ false → WholeBlocks a
      → let rk = (cipher_in k).rk in tag_of_halves k label iv a b ≡ tag_of rk (hash_key rk) (J0 rk iv) label (a ++ b)
  unfolding tag_of
  tag_is label iv a b e whole =
      let rk = (cipher_in k).rk in
      let h = hash_key rk in
      let el = hash_key-lt rk in
      rw (key_is, counter_is h el iv e, enciphers (J0 rk iv) (length_counter h iv), all_joined h el label a b whole, value_back)

-- Where sealing answers 0, the hashes of label, halves and lengths, joined by the exported calls alone, make its tag.
pub tags_by_halves : (k : LuossavinKey) → TagsByHalves k
unfolding host_mode_call mode_of
tags_by_halves k label d iv o a b t e cut n whole =
    let c = cipher_in k in
    let rk = c.rk in
    let h = hash_key rk in
    let j = J0 rk iv in
    let p = through Encrypt (in_gcm c) label d iv o e in
    let message : (a ++ b) ++ t ≡ sealed rk h j label d =
    sym cut ∙ rw (leaves Encrypt (in_gcm c) label d iv o p) (result-of-done (sealed rk h j label d) o) in
    let text : text_of rk j d ≡ a ++ b = sym (rw (← message) at (sealed-text rk h j label d)) ∙ parts-text (a ++ b) t n in
    tag_is k p.key p.may label iv a b p.iv-size whole
    ∙ rw (← text) (sym (rw (← message) at (sealed-tag rk h j label d)) ∙ parts-tag (a ++ b) t n)
