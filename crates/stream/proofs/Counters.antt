-- The states of a walk whose states are counters: n steps are a jump of n blocks.
use Rattle.stream.proofs.Names.{AreBytes, Bool, List, Reached, ◌%◌, ◌*◌, ◌+◌, ◌^◌, ◌∙◌, ◌≡◌, ◌≤◌, arith, below-append, below-take}
use Rattle.stream.proofs.Names.{block_at, bytes_of, bytes_of-bytes, cat, cat-same, counting, ctr_jump, ctr_next, drop, encrypt_block}
use Rattle.stream.proofs.Names.{false, gcm-jump_on, gcm_jump, gcm_next, gives, jump_on, jumped, length, length-append, length-bytes_of}
use Rattle.stream.proofs.Names.{length-take-le, no_gcm-jump, no_jump, number_of, over, returned, stepped, stream_mode, suc, sym}
use Rattle.stream.proofs.Names.{tail_is, tailed, take, true, xors, zero, ℕ}
use Rattle.stream.proofs.Walks.{blocks_on}

-- a jump gives a block of bytes
pub length-jumped : (wide : Bool) (s : List ℕ) (k : ℕ) → length s ≡ 16 → length (jumped wide s k) ≡ 16
unfolding ctr_jump gcm_jump
length-jumped true s k h = length-bytes_of 16 ((number_of s + k) % 2 ^ 128)
length-jumped false s k h =
    let t = (number_of (drop 12 s) + k) % 2 ^ 32 in
    length-append (take 12 s) (bytes_of 4 t) ∙ rw (length-take-le 12 s (omega arith), length-bytes_of 4 t)

-- and so does a step, which is a jump of one
length-ctr_next : (s : List ℕ) → length (ctr_next s) ≡ 16
unfolding ctr_next
length-ctr_next s = length-bytes_of 16 ((number_of s + 1) % 2 ^ 128)

ctr_next-bytes : (s : List ℕ) → AreBytes (ctr_next s)
unfolding ctr_next
ctr_next-bytes s = bytes_of-bytes 16 ((number_of s + 1) % 2 ^ 128)

pub length-gcm_next : (s : List ℕ) → length s ≡ 16 → length (gcm_next s) ≡ 16
unfolding gcm_next gcm_jump
length-gcm_next s n = length-jumped false s 1 n

pub gcm_next-bytes : (s : List ℕ) → AreBytes s → AreBytes (gcm_next s)
unfolding gcm_next
gcm_next-bytes s a = below-append 256 (take 12 s) (bytes_of 4 _) (below-take 256 12 s a) (bytes_of-bytes 4 _)

module _ (rk : List ℕ) where
  pub jumped-stepped : (wide : Bool) (n : ℕ) (s d : List ℕ) → length s ≡ 16 → AreBytes s
      → stepped (stream_mode (counting wide) rk) n s d ≡ jumped wide s n
  unfolding stepped
  jumped-stepped true zero s d n a = sym (no_jump s n a)
  jumped-stepped true (suc k) s d n a = jumped-stepped true k (ctr_next s) (drop 16 d) (length-ctr_next s) (ctr_next-bytes s) ∙ jump_on s k
  jumped-stepped false zero s d n a = sym (no_gcm-jump s n a)
  jumped-stepped false (suc k) s d n a =
      jumped-stepped false k (gcm_next s) (drop 16 d) (length-gcm_next s n) (gcm_next-bytes s a) ∙ gcm-jump_on s k n

  -- n blocks more were written, each xored with the cipher of its counter
  pub counted_on : (wide : Bool) {s d o r p : List ℕ} {at : ℕ} → Reached (stream_mode (counting wide) rk) s d o r p at
      → (n : ℕ) (r' t : List ℕ) → at + 16 * n ≤ length d → at + 16 * n ≤ length p → length r ≡ 16 → AreBytes r → r' ≡ jumped wide r n
      → t ≡ over (cat n (λ i. xors (block_at (tailed at d) i) (encrypt_block rk (jumped wide r i)))) (tailed at p)
      → Reached (stream_mode (counting wide) rk) s d o r' (returned at p t) (at + 16 * n)
  counted_on wide {d = d} {r = r} {p = p} {at = at} R n r' t hd hp hr hb e f =
      let given = gives (stream_mode (counting wide) rk) r (drop at d) in
      let same : cat n (λ i. xors (block_at (tailed at d) i) (encrypt_block rk (jumped wide r i))) ≡ cat n given =
      cat-same n (λ i. xors (block_at (tailed at d) i) (encrypt_block rk (jumped wide r i))) given
      (λ i g. rw (tail_is d at, jumped-stepped wide i r (drop at d) hr hb)) in
      blocks_on (counting wide) rk R n r' t hd hp (e ∙ sym (jumped-stepped wide n r (drop at d) hr hb)) (rw same at f)
