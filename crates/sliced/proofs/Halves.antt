-- Transposed halves of blocks are lanes, and lanes transposed are halves of blocks.
use Rattle.sliced.proofs.Names.{Halved, List, Parted, Row, Rows, Turned, ◌%◌, ◌*◌, ◌+◌, ◌-◌, ◌/◌, ◌<◌, ◌^◌, ◌∙◌, ◌≡◌, ◌≤◌}
use Rattle.sliced.proofs.Names.{◌++◌, ap, arith, at, below_at, bit, bit-shr, drop, encrypt_words, four_entries, get_or, get_or-append, get_or-append_right, get_or-drop, get_or-take, lane, lanes}
use Rattle.sliced.proofs.Names.{length, lit<, mod_is, place, refl, rounds, subst, sym, take, take_at}
use Rattle.sliced.proofs.Names.{turned, ℕ}
use Rattle.sliced.proofs.Held.{lane-lt, lane-bit, lanes-words}

-- halves that were copied out of a, and into it
pub parted : (a upper lower : List ℕ) → upper ≡ take 256 (drop 256 a) → lower ≡ take 256 a → Parted 256 a upper lower
parted a upper lower u l = record {
  up = λ m h.
      let e : 256 + m ≡ m + 256 = omega arith in
      rw u (sym (get_or-take 256 (drop 256 a) m 0 h ∙ get_or-drop 256 a m 0 ∙ ap (λ (z : ℕ). get_or a z 0) e));
  low = λ m h. rw l (sym (get_or-take 256 a m 0 h));
}

pub joined : (upper lower x y : List ℕ) → length upper ≡ 256 → length lower ≡ 256
    → Parted 256 (take 256 (lower ++ x) ++ (upper ++ y)) upper lower
joined upper lower x y nu nl =
    rw (take_at lower x 256 nl) (record {
      up = λ m h.
          let a : length lower ≤ m + 256 = omega arith in
          let e : m + 256 - length lower ≡ m = omega arith in
          get_or-append_right lower (upper ++ y) (m + 256) 0 a ∙ rw e (get_or-append upper y 0 m (omega arith));
      low = λ m h. get_or-append lower (upper ++ y) 0 m (omega arith);
    })

-- what is transposed is transposed back
pub turned_back : (a₀ a : List ℕ) → Turned a₀ a → Turned a a₀
turned_back a₀ a t j r c hj hr hc = sym (t j c r hj hc hr)

-- the lanes of two planes that are joined and transposed
module _ (a a' high low : List ℕ) (t : Turned a a') (P : Parted 256 a high low) where
  row-bit : (e i : ℕ) → e < 512 → i < 64 → bit i (get_or a' e 0) ≡ bit (e / 8) (get_or a (8 * i + e % 8) 0)
  unfolding at
  row-bit e i he hi =
      let q : e ≡ 8 * (e / 8) + e % 8 = omega arith in
      ap (λ (z : ℕ). bit i (get_or a' z 0)) q ∙ t (e % 8) (e / 8) i (omega arith) (omega arith) hi

  pub halved : Halved a' high low
  halved e he =
      let x = get_or a' e 0 in (
        mod_is 32 (x / 2 ^ 32) (lane high e) (lane-lt high e)
            (λ i h.
            let q : 8 * (32 + i) + e % 8 ≡ 8 * i + e % 8 + 256 = omega arith in
            bit-shr 32 i x ∙ row-bit e (32 + i) he (omega arith)
            ∙ ap (bit (e / 8)) (ap (λ (z : ℕ). get_or a z 0) q ∙ P.up (8 * i + e % 8) (omega arith)) ∙ lane-bit high e i h),
        mod_is 32 x (lane low e) (lane-lt low e)
            (λ i h. row-bit e i he (omega arith) ∙ ap (bit (e / 8)) (P.low (8 * i + e % 8) (omega arith)) ∙ lane-bit low e i h),
      )

-- the words of a half
words_of : (x u v : ℕ) → u < 2 ^ 32 → v < 2 ^ 32 → x ≡ u * 2 ^ 32 + v → (x / 2 ^ 32 % 2 ^ 32 ≡ u) × (x % 2 ^ 32 ≡ v)
words_of x u v hu hv e = omega arith

of_words : (x u v : ℕ) → x < 2 ^ 64 → x / 2 ^ 32 % 2 ^ 32 ≡ u → x % 2 ^ 32 ≡ v → x ≡ u * 2 ^ 32 + v
of_words x u v h e f = omega arith

-- a block in a row is the block in its lane
module _ (a b x0 x1 x2 x3 : List ℕ) (ha : Halved a x0 x1) (hb : Halved b x2 x3) where
  lanes-of : (e : ℕ) → e < 512 → (x : List ℕ) → Row x (get_or a e 0) (get_or b e 0) → lanes x0 x1 x2 x3 e ≡ x
  lanes-of e he x r =
      let w = below_at (2 ^ 32) x (lit< tt) r.small in
      let u = words_of (get_or a e 0) (get_or x 0 0) (get_or x 1 0) (w 0) (w 1) r.high in
      let v = words_of (get_or b e 0) (get_or x 2 0) (get_or x 3 0) (w 2) (w 3) r.low in
      cc ((ha e he).0, (ha e he).1, (hb e he).0, (hb e he).1, u.0, u.1, v.0, v.1, four_entries x r.four)

  row_of : ((p : ℕ) → get_or a p 0 < 2 ^ 64) → ((p : ℕ) → get_or b p 0 < 2 ^ 64) → (e : ℕ) → e < 512
      → Row (lanes x0 x1 x2 x3 e) (get_or a e 0) (get_or b e 0)
  row_of sa sb e he = record {
    four = refl;
    small = lanes-words x0 x1 x2 x3 e;
    high = of_words (get_or a e 0) (lane x0 e) (lane x1 e) (sa e) (ha e he).0 (ha e he).1;
    low = of_words (get_or b e 0) (lane x2 e) (lane x3 e) (sb e) (hb e he).0 (hb e he).1;
  }

  -- rows in lanes
  pub rows_in_lanes : (m : ℕ) (f : ℕ → List ℕ) → m ≤ 512 → Rows m f a b → (i : ℕ) → i < m → lanes x0 x1 x2 x3 (place i) ≡ f i
  rows_in_lanes m f hm R i hi = lanes-of (place i) (omega arith) (f i) (R.row i hi)

-- lanes, 32 rounds, and into rows
module _ (rk a b x0 x1 x2 x3 y0 y1 y2 y3 : List ℕ) (n : ℕ) (hn : n ≤ 8) (ha : Halved a y3 y2) (hb : Halved b y1 y0)
    (sa : (p : ℕ) → get_or a p 0 < 2 ^ 64) (sb : (p : ℕ) → get_or b p 0 < 2 ^ 64)
    (h : (e : ℕ) → e < 512 → e % 8 < n → lanes y0 y1 y2 y3 e ≡ rounds rk (lanes x0 x1 x2 x3 e)) where
  pub rows_encrypted : length a ≡ 512 → length b ≡ 512 → (m : ℕ) (f : ℕ → List ℕ) → m ≤ 64 * n
      → ((i : ℕ) → i < m → lanes x0 x1 x2 x3 (place i) ≡ f i) → Rows m (λ i. encrypt_words rk (f i)) a b
  unfolding encrypt_words
  rows_encrypted la lb m f hm F =
      record {
        size_a = la;
        size_b = lb;
        row = λ i hi.
            let e = place i in
            let j : i / 64 < n = omega arith in
            let k : e % 8 ≡ i / 64 = omega arith in
            let he : e < 512 = omega arith in
            let q : lanes y0 y1 y2 y3 e ≡ rounds rk (f i) = h e he (omega arith) ∙ ap (rounds rk) (F i hi) in
            subst (λ (x : List ℕ). Row (turned x) (get_or a e 0) (get_or b e 0)) q (row_of a b y3 y2 y1 y0 ha hb sa sb e he);
      }
