-- States that are known before a block is ciphered: those of Cfb decryption are the blocks before, those of Ctr and Gctr counters. The
-- ciphers of all of them, xored with the message, are what the walk gives.
use Rattle.stream.proofs.Names.{AreBytes, Bool, CfbDecrypt, FedBack, Kind, List, Reached, [], ◌*◌, ◌++◌, ◌+◌, ◌<◌, ◌∙◌, ◌∷◌, ◌≡◌}
use Rattle.stream.proofs.Names.{◌≤◌, ◌⊎◌, ap, append_assoc, arith, block_of, block_at, cat, cat-next, cat-same, counting, drop}
use Rattle.stream.proofs.Names.{encrypt_block, false, gives, inl, inr, jumped, length, length-append, length-block_at}
use Rattle.stream.proofs.Names.{length-encrypt_block, over, reached-first, refl, returned_is, states_before, stepped, stream_mode, sym}
use Rattle.stream.proofs.Names.{tail_is, take, true, xored-blocks, xors, ℕ}
use Rattle.stream.proofs.Counters.{jumped-stepped}
use Rattle.stream.proofs.Walks.{blocks_on}
use Rattle.stream.proofs.RoundTrip.{stream-block}
pub use Rattle.stream.proofs.Counters.{length-jumped}

pub cfb_fed : (rk : List ℕ) → FedBack (stream_mode CfbDecrypt rk)
cfb_fed rk = record { state = λ s b. refl; full = λ s b hs hb. stream-block CfbDecrypt rk s b hb }

-- the states, as they were laid out
pub laid_counters : (wide : Bool) (rk : List ℕ) (n : ℕ) (s d o t : List ℕ) → length s ≡ 16 → AreBytes s → t ≡ over (cat n (jumped wide s)) o
    → (i : ℕ) → i < n → block_at t i ≡ stepped (stream_mode (counting wide) rk) i s d
laid_counters wide rk n s d o t h b e i g =
    let f = jumped wide s in
    rw e (block_of n f (drop (length (cat n f)) o) (λ k l. length-jumped wide s k h) i g ∙ sym (jumped-stepped rk wide i s d h b))

pub laid_before : (rk : List ℕ) (n : ℕ) (s d o t : List ℕ) → length s ≡ 16 → 16 * n ≤ length d + 16
    → t ≡ over (cat n (λ i. block_at (s ++ d) i)) o → (i : ℕ) → i < n → block_at t i ≡ stepped (stream_mode CfbDecrypt rk) i s d
laid_before rk n s d o t h r e i g =
    let room : 16 * n ≤ length (s ++ d) = rw length-append (omega arith) in
    let f : ℕ → List ℕ = λ k. block_at (s ++ d) k in
    rw e (block_of n f (drop (length (cat n f)) o) (λ k l. length-block_at (s ++ d) k n l room) i g
    ∙ sym (states_before (stream_mode CfbDecrypt rk) (cfb_fed rk) i s d h))

module _ (k : Kind) (rk s d : List ℕ) (m : ℕ) (h : 16 * m ≤ length d) where
  -- the ciphers of the states behind one another, of one more than there are blocks or as many
  module _ (n : ℕ) (states pads z : List ℕ) (hs : (i : ℕ) → i < m + 1 → block_at states i ≡ stepped (stream_mode k rk) i s d)
      (hp : pads ≡ over (cat n (λ i. encrypt_block rk (block_at states i))) z) where
    abbrev ciphers : ℕ → List ℕ
    ciphers i = encrypt_block rk (block_at states i)

    -- at the front stand those of the blocks
    front : (n ≡ m) ⊎ (n ≡ m + 1) → (y : List ℕ) × (pads ≡ cat m ciphers ++ y)
    front (inl e) = (drop (length (cat n ciphers)) z, hp ∙ ap (λ (j : ℕ). cat j ciphers ++ drop (length (cat n ciphers)) z) e)
    front (inr e) =
        let y = drop (length (cat n ciphers)) z in
        (ciphers m ++ y, hp ∙ ap (λ (j : ℕ). cat j ciphers ++ y) e ∙ rw (cat-next m ciphers) (append_assoc (cat m ciphers) (ciphers m) y))

    pub few-written : (n ≡ m) ⊎ (n ≡ m + 1) → (o t : List ℕ) → t ≡ over (xors (take (16 * m) d) pads) o
        → t ≡ over (cat m (gives (stream_mode k rk) s d)) o
    few-written hn o t e =
        let full : (i : ℕ) → i < m → length (ciphers i) ≡ 16 = λ i l. length-encrypt_block rk (block_at states i) in
        let xored : xors (take (16 * m) d) pads ≡ cat m (gives (stream_mode k rk) s d) = ap (xors (take (16 * m) d)) (front hn).1
        ∙ xored-blocks m d (front hn).0 ciphers h full ∙ cat-same m (λ i. xors (block_at d i) (ciphers i)) (gives (stream_mode k rk) s d)
        (λ i l. ap (λ (x : List ℕ). xors (block_at d i) (encrypt_block rk x)) (hs i (omega arith))) in
        e ∙ ap (λ (x : List ℕ). over x o) xored

    pub few-pad : n ≡ m + 1 → block_at pads m ≡ encrypt_block rk (stepped (stream_mode k rk) m s d)
    few-pad hn =
        ap (λ (x : List ℕ). block_at x m) hp
        ∙ block_of n ciphers (drop (length (cat n ciphers)) z) (λ i l. length-encrypt_block rk (block_at states i)) m (omega arith)
        ∙ ap (encrypt_block rk) (hs m (omega arith))

  -- the walk has come behind m blocks
  pub few-reached : (o t r : List ℕ) → length d ≤ length o → r ≡ stepped (stream_mode k rk) m s d
      → t ≡ over (cat m (gives (stream_mode k rk) s d)) o → Reached (stream_mode k rk) s d o r t (16 * m)
  few-reached o t r l fr ft =
      let e : 0 + 16 * m ≡ 16 * m = omega arith in
      rw (e, returned_is o t 0) at
      (blocks_on k rk (reached-first (stream_mode k rk) s d o) m r t (omega arith) (omega arith) fr (rw (tail_is o 0) ft))

-- what has no bytes is empty
empty : (d : List ℕ) → length d ≡ 0 → d ≡ []
empty [] h = refl
empty (x ∷ d) h = absurd (omega arith)

-- a rest, with a pad if there is one
pub rest-xored : (b : Bool) (d p q : List ℕ) → (b ≡ true → p ≡ q) → (b ≡ false → length d ≡ 0) → xors d p ≡ xors d q
rest-xored true d p q f g = ap (xors d) (f refl)
rest-xored false d p q f g = rw (empty d (g refl))
