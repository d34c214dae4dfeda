-- Decryption of many blocks at once: the state of a block is the ciphertext block before it, and the cipher under the round keys turned
-- round is decryption.
use Rattle.cbc.proofs.Names.{FedBack, List, Reached, ◌*◌, ◌++◌, ◌+◌, ◌-◌, ◌<◌, ◌∙◌, ◌≡◌, ◌≤◌, ap, arith, block-before, block_of, block_at}
use Rattle.cbc.proofs.Names.{cat, cat-same, cbc_decrypt, decrypt-turned, decrypt_block, drop, drop-drop, encrypt_block, gives, length}
use Rattle.cbc.proofs.Names.{length-append, length-block_at, length-cat, length-drop, length-encrypt_block, over, reached_on, refl}
use Rattle.cbc.proofs.Names.{returned, reverse, states_before, stepped, suc, sym, tail_is, tailed, take, unwords, words, xored-blocks, xors}
use Rattle.cbc.proofs.Names.{xors_comm, zero, ℕ}
use Rattle.cbc.proofs.Blocks.{decrypt-block}

turned-block : (back s : List ℕ) → encrypt_block back s ≡ decrypt_block (reverse back) s
unfolding encrypt_block decrypt_block
turned-block back s = ap unwords (sym (decrypt-turned back (words s)))

module _ (back : List ℕ) where
  pub decrypt_fed : FedBack (cbc_decrypt (reverse back))
  decrypt_fed = record { state = λ s b. refl; full = λ s b hs hb. decrypt-block (reverse back) s b hs }

  -- n states, each xored with what its ciphertext block is decrypted to, are what the blocks give
  pub decrypted : (n : ℕ) (s c : ℕ → List ℕ) (o t : List ℕ) → t ≡ over (cat n (λ i. xors (s i) (encrypt_block back (c i)))) o
      → t ≡ over (cat n (λ i. (cbc_decrypt (reverse back)).block (s i) (c i))) o
  decrypted n s c o t e =
      let f : ℕ → List ℕ = λ i. xors (s i) (encrypt_block back (c i)) in
      let g : ℕ → List ℕ = λ i. (cbc_decrypt (reverse back)).block (s i) (c i) in
      e ∙ ap (λ (x : List ℕ). over x o)
      (cat-same n f g (λ i h. rw (turned-block back (c i)) (xors_comm (s i) (decrypt_block (reverse back) (c i)))))

  -- m blocks, each xored with the block before it
  pub few_decrypted : (m : ℕ) (s d before pads y z o t : List ℕ) → length s ≡ 16 → 16 * m ≤ length d
      → before ≡ over (cat m (λ i. block_at (s ++ d) i)) y → pads ≡ over (cat m (λ i. encrypt_block back (block_at d i))) z
      → t ≡ over (xors (take (16 * m) before) pads) o
      → t ≡ over (cat m (λ i. (cbc_decrypt (reverse back)).block (stepped (cbc_decrypt (reverse back)) i s d) (block_at d i))) o
  few_decrypted m s d before pads y z o t hs hd eb ep et =
      let M = cbc_decrypt (reverse back) in
      let B : ℕ → List ℕ = λ i. block_at (s ++ d) i in
      let f : ℕ → List ℕ = λ i. encrypt_block back (block_at d i) in
      let Y = drop (length (cat m B)) y in
      let lw : 16 * m ≤ length (s ++ d) = rw length-append (omega arith) in
      let full : (i : ℕ) → i < m → length (B i) ≡ 16 = λ i g. length-block_at (s ++ d) i m g lw in
      let lb : 16 * m ≤ length before = omega (arith, ap length eb ∙ length-append (cat m B) Y, length-cat m B full) in
      let states : (i : ℕ) → i < m → block_at before i ≡ stepped M i s d =
      λ i g. ap (λ (x : List ℕ). block_at x i) eb ∙ block_of m B Y full i g ∙ sym (states_before M decrypt_fed i s d hs) in
      let xored : xors (take (16 * m) before) pads ≡ cat m (λ i. xors (stepped M i s d) (f i)) = ap (xors (take (16 * m) before)) ep
      ∙ xored-blocks m before (drop (length (cat m f)) z) f lb (λ i g. length-encrypt_block back (block_at d i))
      ∙ cat-same m (λ i. xors (block_at before i) (f i)) (λ i. xors (stepped M i s d) (f i))
      (λ i g. ap (λ (x : List ℕ). xors x (f i)) (states i g)) in
      decrypted m (λ i. stepped M i s d) (λ i. block_at d i) o t (et ∙ ap (λ (x : List ℕ). over x o) xored)

  -- a state on the way is a block
  pub full_state : (s d : List ℕ) (n i : ℕ) → length s ≡ 16 → 16 * n ≤ length d → i < n
      → length (stepped (cbc_decrypt (reverse back)) i s d) ≡ 16
  full_state s d n i hs hd h =
      ap length (states_before (cbc_decrypt (reverse back)) decrypt_fed i s d hs)
      ∙ length-block_at (s ++ d) i n h (rw length-append (omega arith))

  -- the state n blocks further on is the block before that place
  pub fed_next : (s r d : List ℕ) (at n : ℕ) → length s ≡ 16 → length r ≡ 16 → 1 ≤ n
      → take 16 (drop (at + 16 * n) (s ++ d)) ≡ stepped (cbc_decrypt (reverse back)) n r (drop at d)
  fed_next s r d at n hs hr h =
      let k : at + (16 * n - 16) ≡ at + 16 * n - 16 = omega arith in
      block-before s d (at + 16 * n) hs (omega arith) ∙ sym (states_before (cbc_decrypt (reverse back)) decrypt_fed n r (drop at d) hr
      ∙ block-before r (drop at d) (16 * n) hr (omega arith) ∙ ap (take 16) (drop-drop (16 * n - 16) at d ∙ ap (λ (x : ℕ). drop x d) k))

  -- and with none further on, where that is the block before the place
  fed_on : (n : ℕ) (s r d : List ℕ) (at : ℕ) → length s ≡ 16 → length r ≡ 16 → r ≡ take 16 (drop at (s ++ d))
      → take 16 (drop (at + 16 * n) (s ++ d)) ≡ stepped (cbc_decrypt (reverse back)) n r (drop at d)
  unfolding stepped
  fed_on zero s r d at hs hr e = let z : at + 16 * 0 ≡ at = omega arith in rw z (sym e)
  fed_on (suc n) s r d at hs hr e = fed_next s r d at (suc n) hs hr (omega arith)

  -- n blocks more were written, side by side, where the walk had come to
  pub few_on : (n : ℕ) (s r d o p t : List ℕ) (at : ℕ) → length s ≡ 16 → length r ≡ 16 → r ≡ take 16 (drop at (s ++ d))
      → Reached (cbc_decrypt (reverse back)) s d o (take 16 (drop at (s ++ d))) p at → at + 16 * n ≤ length d → at + 16 * n ≤ length p
      → t ≡ over (cat n (gives (cbc_decrypt (reverse back)) r (tailed at d))) (tailed at p)
      → Reached (cbc_decrypt (reverse back)) s d o (take 16 (drop (at + 16 * n) (s ++ d))) (returned at p t) (at + 16 * n)
  few_on n s r d o p t at hs hr e R hd hp et =
      let room : 16 * n ≤ length (drop at d) = rw length-drop (omega arith) in
      reached_on (cbc_decrypt (reverse back)) s d o r p at (rw (← e) at R) n _ t hd hp
      (λ i h. decrypt-block _ _ _ (full_state r (drop at d) n i hr room h)) (fed_on n s r d at hs hr e) (rw (tail_is d at) at et)
