-- A short text in one batch with the zero block and J0: H is the cipher of the one, that of the other is the mask of its tag, and those of
-- the counters behind are what it is xored with.
use Rattle.gcm.proofs.Names.{AreBytes, Gctr, List, PadsFor, ◌*◌, ◌++◌, ◌+◌, ◌-◌, ◌/◌, ◌<◌, ◌∙◌, ◌≡◌, ◌≤◌, ap, ap₂, arith, below-drop}
use Rattle.gcm.proofs.Names.{block_of, block_at, cat, chain, chain-block, chain-rest, drop, drop_at, drop-drop, encrypt_block, false}
use Rattle.gcm.proofs.Names.{gcm-jump_on, gcm_jump, gcm_next, gcm_next-bytes, hash_key, jumped, jumped-stepped, length, length-drop}
use Rattle.gcm.proofs.Names.{length-encrypt_block, length-gcm_next, length-jumped, length-take-le, no_gcm-jump, number_of, over}
use Rattle.gcm.proofs.Names.{replicate, stepped, stream_mode, suc, sym, tail_is, tailed, take, take-append-drop, take_at, text_of}
use Rattle.gcm.proofs.Names.{unwords, unwords-front, words, xors, xors-append, xors_fit, zero, ℕ}

-- the state of block i
abbrev state_at : List ℕ → List ℕ → List ℕ → ℕ → List ℕ
state_at rk s d i = stepped (stream_mode Gctr rk) i s d

module _ (rk : List ℕ) where
  -- pads that are the ciphers of the states, xored with a text
  chain_pads : (n : ℕ) (s d p : List ℕ) → 16 * n ≤ length d → length d < 16 * n + 16 → length d ≤ length p
      → ((i : ℕ) → i < suc n → block_at p i ≡ encrypt_block rk (state_at rk s d i)) → xors d p ≡ chain (stream_mode Gctr rk) s d
  unfolding stepped
  chain_pads zero s d p h l r e =
      let E = encrypt_block rk s in
      let k = length-encrypt_block rk s in
      ap (xors d) (sym (take-append-drop 16 p) ∙ ap (λ (x : List ℕ). x ++ drop 16 p) (e 0 (omega arith)))
      ∙ xors_fit d E (drop 16 p) (omega arith) ∙ sym (chain-rest (stream_mode Gctr rk) s d (omega arith))
  chain_pads (suc n) s d p h l r e =
      let M = stream_mode Gctr rk in
      let b = take 16 d in
      let d' = drop 16 d in
      let p' = drop 16 p in
      let ld : length d' ≡ length d - 16 = length-drop 16 d in
      let lp : length p' ≡ length p - 16 = length-drop 16 p in
      let lb : length b ≡ length (take 16 p) = length-take-le 16 d (omega arith) ∙ sym (length-take-le 16 p (omega arith)) in
      let on : (i : ℕ) → i < suc n → block_at p' i ≡ encrypt_block rk (state_at rk (M.next s b) d' i) =
      λ i g.
      let k : 16 + 16 * i ≡ 16 * suc i = omega arith in
      ap (take 16) (drop-drop (16 * i) 16 p ∙ ap (λ (x : ℕ). drop x p) k) ∙ e (suc i) (omega arith) in
      ap₂ xors (sym (take-append-drop 16 d)) (sym (take-append-drop 16 p)) ∙ xors-append b d' (take 16 p) p' lb
      ∙ ap₂ ◌++◌ (ap (xors b) (e 0 (omega arith))) (chain_pads n (M.next s b) d' p' (omega arith) (omega arith) (omega arith) on)
      ∙ sym (chain-block M s d (omega arith))

module _ (rk j : List ℕ) (hj : length j ≡ 16) (bj : AreBytes j) (m k : ℕ) (states pads y z : List ℕ)
    (es : states ≡ take 16 y ++ over (cat m (jumped false j)) (drop 16 y))
    (ep : pads ≡ over (cat k (λ i. encrypt_block rk (block_at states i))) z) (ey : take 16 y ≡ replicate 16 0) (hk : m < k) where
  -- pad i is the cipher of state i
  pad-at : (i : ℕ) → i < k → block_at pads i ≡ encrypt_block rk (block_at states i)
  pad-at i h =
      let f : ℕ → List ℕ = λ e. encrypt_block rk (block_at states e) in
      ap (λ (x : List ℕ). block_at x i) ep ∙ block_of k f (drop (length (cat k f)) z) (λ e l. length-encrypt_block rk (block_at states e)) i h

  -- the states are the zero block, and J0 and the counters behind it
  counter_pad : (i : ℕ) → i < m → block_at pads (suc i) ≡ encrypt_block rk (gcm_jump j i)
  counter_pad i h =
      let f : ℕ → List ℕ = jumped false j in
      let q : 16 + 16 * i ≡ 16 * suc i = omega arith in
      let behind : drop 16 states ≡ over (cat m f) (drop 16 y) =
      ap (drop 16) es ∙ drop_at (take 16 y) (over (cat m f) (drop 16 y)) 16 (ap length ey) in
      pad-at (suc i) (omega arith) ∙ ap (encrypt_block rk)
      (sym (ap (take 16) (drop-drop (16 * i) 16 states ∙ ap (λ (x : ℕ). drop x states) q)) ∙ ap (λ (x : List ℕ). block_at x i) behind
      ∙ block_of m f (drop (length (cat m f)) (drop 16 y)) (λ e l. length-jumped false j e hj) i h)

  zeros-pad : take 16 pads ≡ encrypt_block rk (replicate 16 0)
  zeros-pad =
      let o = over (cat m (jumped false j)) (drop 16 y) in
      pad-at 0 (omega arith) ∙ ap (encrypt_block rk) (ap (take 16) es ∙ take_at (take 16 y) o 16 (ap length ey) ∙ ey)

  mask-pad : 0 < m → take 16 (drop 16 pads) ≡ encrypt_block rk j
  mask-pad h = counter_pad 0 h ∙ ap (encrypt_block rk) (no_gcm-jump j hj bj)

  text-pad : (d : List ℕ) → length d / 16 + 2 ≤ m → length d + 32 ≤ length pads → xors d (drop 32 pads) ≡ text_of rk j d
  unfolding text_of
  text-pad d h l =
      let n = length d / 16 in
      let lp : length (drop 32 pads) ≡ length pads - 32 = length-drop 32 pads in
      chain_pads rk n (gcm_next j) d (drop 32 pads) (omega arith) (omega arith) (omega arith)
      (λ i q.
      let e : 32 + 16 * i ≡ 16 * suc (suc i) = omega arith in
      ap (take 16) (drop-drop (16 * i) 32 pads ∙ ap (λ (x : ℕ). drop x pads) e) ∙ counter_pad (suc i) (omega arith) ∙ ap (encrypt_block rk)
      (sym (jumped-stepped rk false i (gcm_next j) d (length-gcm_next j hj) (gcm_next-bytes j bj) ∙ gcm-jump_on j i hj)))

  pub pads_ready : (n : ℕ) → n / 16 + 2 ≤ m → length pads ≡ 512 → n < 480 → PadsFor rk j n pads
  pads_ready n h l g =
      record { room = omega arith; zeros = zeros-pad; mask = mask-pad (omega arith); text = λ d e. text-pad d (omega arith) (omega arith) }

-- H is the number of the first of them
pub hash-key-front : (rk j pads x : List ℕ) (n h : ℕ) → PadsFor rk j n pads → AreBytes pads → x ≡ words pads → h ≡ number_of (unwords x)
    → h ≡ hash_key rk
unfolding hash_key
hash-key-front rk j pads x n h p small e f =
    let l = p.room in
    f ∙ ap number_of (ap unwords e ∙ unwords-front pads (omega arith) small ∙ p.zeros)

module _ (rk j pads : List ℕ) (n : ℕ) (p : PadsFor rk j n pads) where
  -- the words of the second are those of the mask
  pub mask-front : (x : List ℕ) → AreBytes pads → x ≡ words (tailed 16 pads) → unwords x ≡ encrypt_block rk j
  mask-front x small e =
      let l = p.room in
      let k = length-drop 16 pads in
      ap unwords (e ∙ ap words (tail_is pads 16)) ∙ unwords-front (drop 16 pads) (omega arith) (below-drop 256 16 pads small) ∙ p.mask

  -- and the text is xored with those behind it
  pub text-front : (d : List ℕ) → length d ≡ n → xors d (tailed 32 pads) ≡ text_of rk j d
  text-front d e = ap (xors d) (tail_is pads 32) ∙ p.text d e
