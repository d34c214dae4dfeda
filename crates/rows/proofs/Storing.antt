-- The bytes of blocks in rows, stored one after the other.
use Rattle.block.proofs.Base.{◌*◌, ◌+◌, ◌<◌, ◌^◌, ◌≤◌, ℕ, ◌∙◌, ◌≡◌, ap, ap₂, sym, List, ◌++◌, append_assoc}
use Rattle.block.proofs.Base.{arith, lit<, drop, get_or, length, length-append, length-drop, take, drop_at}
use Rattle.block.proofs.Base.{drop-drop, take_at}
use Rattle.block.specs.Below.{AreBytes}
use Rattle.block.specs.BigEndian.{bytes_of}
use Rattle.block.specs.Blocks.{block_at, cat}
use Rattle.block.specs.Words.{words, unwords}
use Rattle.block.specs.Xor.{◌⊕◌, xors}
use Rattle.block.proofs.Cat.{cat-same, cat-next, length-cat, length-block_at}
use Rattle.block.proofs.Convert.{length-bytes_of, bytes_of-append, bytes_of-xor}
use Rattle.block.proofs.Entries.{below_at, below-drop}
use Rattle.block.proofs.WordsBack.{unwords-front}
use Rattle.block.proofs.Xors.{length-xors, xors-append}
use Rattle.rows.specs.Rows.{place, Row, Rows, xored_blocks}

-- the halves of a block have its bytes
row-bytes : (x : List ℕ) (hi lo : ℕ) → Row x hi lo → bytes_of 8 hi ++ bytes_of 8 lo ≡ unwords x
unfolding unwords
row-bytes x hi lo r =
    let b = below_at (2 ^ 32) x (lit< tt) r.small in
    rw (r.high, r.low, bytes_of-append 4 4 (get_or x 0 0) (get_or x 1 0) (b 1), bytes_of-append 4 4 (get_or x 2 0) (get_or x 3 0) (b 3))
    (append_assoc (bytes_of 4 (get_or x 0 0)) (bytes_of 4 (get_or x 1 0)) (bytes_of 4 (get_or x 2 0) ++ bytes_of 4 (get_or x 3 0)))

-- what is stored for block i
abbrev pub xored_row : List ℕ → List ℕ → List ℕ → ℕ → List ℕ
xored_row a b d i = xors (block_at d i) (bytes_of 8 (get_or a (place i) 0) ++ bytes_of 8 (get_or b (place i) 0))

-- the halves of the block's words, xored with those at its place
pub xored-row : (a b d : List ℕ) (i q hi lo : ℕ) → 16 * i + 16 ≤ length d → AreBytes d → q ≡ place i → Row (words (drop (16 * i) d)) hi lo
    → bytes_of 8 (hi ⊕ get_or a q 0) ++ bytes_of 8 (lo ⊕ get_or b q 0) ≡ xored_row a b d i
xored-row a b d i q hi lo full small e r =
    let u = get_or a (place i) 0 in
    let v = get_or b (place i) 0 in
    let n = length-drop (16 * i) d in
    rw (e, bytes_of-xor 8 hi u, bytes_of-xor 8 lo v)
    (sym (xors-append (bytes_of 8 hi) (bytes_of 8 lo) (bytes_of 8 u) (bytes_of 8 v) (length-bytes_of 8 hi ∙ sym (length-bytes_of 8 u)))
    ∙ rw (row-bytes _ hi lo r, unwords-front (drop (16 * i) d) (omega arith) (below-drop 256 (16 * i) d small)))

-- k bytes stored behind C
stored-behind : (C x o₀ o o' : List ℕ) (n k : ℕ) → length C ≡ n → o ≡ C ++ drop n o₀ → o' ≡ take n o ++ (x ++ drop (n + k) o)
    → o' ≡ (C ++ x) ++ drop (n + k) o₀
stored-behind C x o₀ o o' n k l e h =
    let d : drop (n + k) o ≡ drop (n + k) o₀ = sym (drop-drop k n o) ∙ rw (e, drop_at C (drop n o₀) n l) (drop-drop k n o₀) in
    h ∙ rw (d, e, take_at C (drop n o₀) n l) (sym (append_assoc C x (drop (n + k) o₀)))

-- two stores of eight bytes behind e blocks
module _ (o₀ o o1 o2 : List ℕ) (u v : ℕ) (f : ℕ → List ℕ) (e : ℕ) (full : (i : ℕ) → i < e → length (f i) ≡ 16)
    (uv : bytes_of 8 u ++ bytes_of 8 v ≡ f e) (ho : o ≡ cat e f ++ drop (16 * e) o₀)
    (h1 : o1 ≡ take (16 * e) o ++ (bytes_of 8 u ++ drop (16 * e + 8) o))
    (h2 : o2 ≡ take (16 * e + 8) o1 ++ (bytes_of 8 v ++ drop (16 * e + 8 + 8) o1)) where
  pub block-stored : o2 ≡ cat (e + 1) f ++ drop (16 * (e + 1)) o₀
  block-stored =
      let C = cat e f in
      let x = bytes_of 8 u in
      let l = length-cat e f full in
      let n = length-bytes_of 8 u in
      let q : 16 * e + 8 + 8 ≡ 16 * (e + 1) = omega arith in
      stored-behind (C ++ x) (bytes_of 8 v) o₀ o1 o2 (16 * e + 8) 8 (length-append C x ∙ omega arith)
      (stored-behind C x o₀ o o1 (16 * e) 8 l ho h1) h2
      ∙ rw (q, append_assoc C x (bytes_of 8 v), uv, cat-next e f)

-- each block that is stored has sixteen bytes
module _ (d : List ℕ) (m : ℕ) (h : 16 * m ≤ length d) where
  pub length_xored_row : (a b : List ℕ) (i : ℕ) → i < m → length (xored_row a b d i) ≡ 16
  length_xored_row a b i g =
      let l = bytes_of 8 (get_or a (place i) 0) ++ bytes_of 8 (get_or b (place i) 0) in
      let k = length-block_at d i m g h in
      let n : length l ≡ 16 = simp (length-append, length-bytes_of) in
      length-xors (block_at d i) l (omega arith) ∙ k

  -- rows stored are their blocks stored
  pub all_stored : (a b o₀ o : List ℕ) (f : ℕ → List ℕ) → Rows m f a b → o ≡ cat m (xored_row a b d) ++ drop (16 * m) o₀
      → o ≡ xored_blocks m d f ++ drop (length (xored_blocks m d f)) o₀
  all_stored a b o₀ o f R e =
      let s : cat m (xored_row a b d) ≡ xored_blocks m d f =
      cat-same m (xored_row a b d) (λ i. xors (block_at d i) (unwords (f i)))
      (λ i g. ap (xors (block_at d i)) (row-bytes (f i) (get_or a (place i) 0) (get_or b (place i) 0) (R.row i g))) in
      let n : 16 * m ≡ length (xored_blocks m d f) = sym (length-cat m (xored_row a b d) (length_xored_row a b)) ∙ ap length s in
      e ∙ ap₂ (λ (l : List ℕ) (k : ℕ). l ++ drop k o₀) s n
