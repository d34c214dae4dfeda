-- Ctr xors a text with key stream: the ciphers of its counters, as far as they are needed. So a range xors its stretch with that part.
use Rattle.ranges.proofs.Names.{CtrKind, List, [], ◌*◌, ◌++◌, ◌+◌, ◌∙◌, ◌∷◌, ◌≡◌, ◌≤◌, append-nil, arith, by_order, chain}
use Rattle.ranges.proofs.Names.{chain-block, chain-rest, ctr_next, drop, drop_at, drop_of_length-le, drop-xors, encrypt_block, length}
use Rattle.ranges.proofs.Names.{length-append, length-drop, length-encrypt_block, length-replicate, length-take-le, refl, replicate}
use Rattle.ranges.proofs.Names.{stream_mode, stretch, suc, sym, take, take-append-drop, xors, xors-append, xors_comm, xors_cut, zero}
use Rattle.ranges.proofs.Names.{ℕ}

-- the ciphers of j counters from s on
unfoldable pub pads : List ℕ → ℕ → List ℕ → List ℕ
pads rk zero s = []
pads rk (suc j) s = encrypt_block rk s ++ pads rk j (ctr_next s)

pub length_pads : (rk : List ℕ) (j : ℕ) (s : List ℕ) → length (pads rk j s) ≡ 16 * j
unfolding pads
length_pads rk zero s = omega arith
length_pads rk (suc j) s = rw length-append (omega (arith, length-encrypt_block rk s, length_pads rk j (ctr_next s)))

-- what is past the text's end does not count
xors_longer : (a p q : List ℕ) → length a ≤ length p → xors a (p ++ q) ≡ xors a p
xors_longer a p q h =
    rw (xors_comm a (p ++ q), xors_cut p q a, drop_of_length-le a {i = length p} h, xors_comm q [], append-nil, xors_comm p a)

module _ (rk : List ℕ) where
  pub chain_pads : (j : ℕ) (s d : List ℕ) → length d ≤ 16 * j → chain (stream_mode CtrKind rk) s d ≡ xors d (pads rk j s)
  unfolding pads
  chain_pads zero s [] h = chain-rest (stream_mode CtrKind rk) s [] (omega arith)
  chain_pads zero s (x ∷ d) h = absurd (omega arith)
  chain_pads (suc j) s d h =
      let m = stream_mode CtrKind rk in
      let pad = encrypt_block rk s in
      let n = length-encrypt_block rk s in
      by_order (length d) 16
      (λ low. rw (chain-rest m s d low, xors_longer d pad (pads rk j (ctr_next s)) (omega arith)))
      (λ full.
      let next = chain_pads j (ctr_next s) (drop 16 d) (omega (arith, length-drop 16 d)) in
      let joined = xors-append (take 16 d) (drop 16 d) pad (pads rk j (ctr_next s)) (length-take-le 16 d full ∙ sym n) in
      rw (chain-block m s d full, next, ← joined, take-append-drop 16 d))

  -- so what is behind any text is xored with the part behind it
  behind_pads : (iv pre d : List ℕ) (j : ℕ) → length pre + length d ≤ 16 * j
      → drop (length pre) (chain (stream_mode CtrKind rk) iv (pre ++ d)) ≡ xors d (drop (length pre) (pads rk j iv))
  behind_pads iv pre d j h =
      let all : length (pre ++ d) ≤ 16 * j = rw length-append h in
      rw (chain_pads j iv (pre ++ d) all, drop-xors (length pre) (pre ++ d) (pads rk j iv), drop_at pre d (length pre) refl)

  -- a range xors its stretch with that part of the key stream
  pub stretch_pads : (iv : List ℕ) (offset : ℕ) (d : List ℕ) (j : ℕ) → offset + length d ≤ 16 * j
      → stretch rk iv offset d ≡ xors d (drop offset (pads rk j iv))
  unfolding stretch
  stretch_pads iv offset d j h =
      let z : List ℕ = replicate offset 0 in
      let n : length z ≡ offset = length-replicate offset 0 in
      rw n at (behind_pads iv z d j (omega arith))

  -- A range is that stretch of the whole, whatever is before it.
  pub stretch-of-whole : (iv pre d : List ℕ)
      → drop (length pre) (chain (stream_mode CtrKind rk) iv (pre ++ d)) ≡ stretch rk iv (length pre) d
  stretch-of-whole iv pre d =
      let j = length pre + length d in behind_pads iv pre d j (omega arith) ∙ sym (stretch_pads iv (length pre) d j (omega arith))
