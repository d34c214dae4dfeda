-- The hash cut anywhere: from the hash after a text, what is behind it goes on as in the whole.
use Rattle.pieces.proofs.Names.{AreBytes, Element, Hashing, List, [], ◌%◌, ◌*◌, ◌++◌, ◌/◌, ◌<◌, ◌∙◌, ◌∷◌, ◌≡◌, ap, append_assoc}
use Rattle.pieces.proofs.Names.{arith, auth_blocks, begun_part, blocks, blocks-append, blocks-nil, bytes_of, bytes_of-number_of, filled_up}
use Rattle.pieces.proofs.Names.{full_part, ghash, ghash-lt, hash-append, hash_after, hash_end, hash_from, hash_from-lt, hash_next, hash_of}
use Rattle.pieces.proofs.Names.{length, length_block, lit<, mod-eq_of_lt, mod-lt, number_of, number_of-bytes_of, sym, take, take_all, ℕ}
use Rattle.pieces.proofs.Filling.{filled-front}
use Rattle.pieces.proofs.Begun.{full_length, begun-length, both-parts, parts-behind, full_behind, begun-behind}

-- sixteen bytes are those of the number that they spell, and the other way round
respelled : (b : List ℕ) → length b ≡ 16 → AreBytes b → bytes_of 16 (number_of b) ≡ b
respelled b n small = ap (λ (k : ℕ). bytes_of k (number_of b)) (sym n) ∙ bytes_of-number_of b small

spelled_back : (x : ℕ) → Element x → number_of (bytes_of 16 x) ≡ x
spelled_back x h = number_of-bytes_of 16 x ∙ mod-eq_of_lt h

element_bytes : (x : ℕ) → Element (number_of (bytes_of 16 x))
element_bytes x = rw (number_of-bytes_of 16 x) (mod-lt x (lit< tt))

-- a text that fills no block is held
pub held_within : (h y c : List ℕ) → length c < 16 → length y ≡ 16 → AreBytes y
    → ◌≡◌ {A = Hashing} (record { h = h; y = y; held = filled_up c }) (hash_after h y c)
unfolding hash_after hash_from
held_within h y c low n small =
    let z : 16 * (length c / 16) ≡ 0 = omega arith in
    rw (z, blocks-nil, respelled y n small)

-- a full block, and then the full blocks behind it
pub full_first : (b c : List ℕ) → length b ≡ 16 → blocks (full_part (b ++ c)) ≡ blocks b ++ blocks (full_part c)
full_first b c n = rw (full_behind b c 1 n) (blocks-append 1 b (full_part c) n)

module _ (h y c : List ℕ) (eh : Element (number_of h)) (ey : Element (number_of y)) where
  -- the full blocks of c, what is begun behind them, and the hash so far
  abbrev a : List ℕ
  a = full_part c

  abbrev b : List ℕ
  b = begun_part c

  so_far : number_of (bytes_of 16 (hash_from (number_of h) (number_of y) (blocks a))) ≡ hash_from (number_of h) (number_of y) (blocks a)
  so_far = spelled_back _ (hash_from-lt (number_of h) eh (number_of y) (blocks a) ey)

  -- what is held before the place where the text ended
  held_is : take (length c % 16) (filled_up b) ≡ b
  held_is = let n = begun-length c in filled-front b (length c % 16) (omega arith) (omega arith) ∙ take_all (length c % 16) b (omega arith)

  -- the hash after c and then e is that after both
  pub hash_on : (e : List ℕ) → hash_next (hash_after h y c) (length c % 16) e ≡ hash_after h y (c ++ e)
  unfolding hash_next hash_after
  hash_on e =
      let k = length c / 16 in
      let n = full_length c in
      rw (held_is, so_far, parts-behind c e, full_behind a (b ++ e) k n, begun-behind a (b ++ e) k n)
      (rw (blocks-append k a (full_part (b ++ e)) n, hash-append (number_of h) (number_of y) (blocks a) (blocks (full_part (b ++ e)))))

  -- and at the end all blocks of c are hashed
  pub hash-ends : (label text : ℕ)
      → hash_end (hash_after h y c) (length c % 16) label text
      ≡ bytes_of 16 (hash_from (number_of h) (number_of y) (blocks c ++ (length_block label text ∷ [])))
  unfolding hash_end hash_after
  hash-ends label text =
      let all : blocks c ≡ blocks a ++ blocks b = ap blocks (sym (both-parts c)) ∙ blocks-append (length c / 16) a b (full_length c) in
      rw (held_is, so_far, all, append_assoc, hash-append (number_of h) (number_of y) (blocks a))

module _ (h : ℕ) (label c : List ℕ) where
  -- from the start
  pub hash_on_of : (e : List ℕ) → hash_next (hash_of h label c) (length c % 16) e ≡ hash_of h label (c ++ e)
  unfolding hash_of
  hash_on_of e = hash_on (bytes_of 16 h) (bytes_of 16 (ghash h (blocks label))) c (element_bytes h) (element_bytes (ghash h (blocks label))) e

  -- and at the end it is the hash of label and text
  pub hash-ends-of : Element h
      → hash_end (hash_of h label c) (length c % 16) (length label) (length c) ≡ bytes_of 16 (ghash h (auth_blocks label c))
  unfolding hash_of auth_blocks
  hash-ends-of hh =
      let y = ghash h (blocks label) in
      let ends = hash-ends (bytes_of 16 h) (bytes_of 16 y) c (element_bytes h) (element_bytes y) (length label) (length c) in
      rw (ends, spelled_back h hh, spelled_back y (ghash-lt h hh (blocks label)), hash-append h 0 (blocks label))
