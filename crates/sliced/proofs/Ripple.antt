-- A word added in every lane, row by row with carries: after i rows the sums of the low i bits and the carries are what was to be added.
use Rattle.sliced.proofs.Names.{Added, List, RowAdded, WordAdded, ◌%◌, ◌*◌, ◌+◌, ◌/◌, ◌<◌, ◌^◌, ◌∙◌, ◌≡◌, ◌≤◌, ◌⊕◌, add-one}
use Rattle.sliced.proofs.Names.{ap, ap₂, arith, bit, bit-and, bit-small, bit-xor, bit_and, carry_at, differ, get_or}
use Rattle.sliced.proofs.Names.{get_or-set_other, get_or-set_same, lane, length, length-set, min, pack, pack-below, pack_is, pow-suc}
use Rattle.sliced.proofs.Names.{refl, set, suc, three-bits, word_more, zero, ℕ}

-- three bits, their sum and its carry, in every bit of three words
word_adder : (k a b m : ℕ) → bit k (a ⊕ b ⊕ m) + 2 * bit k (bit_and a b ⊕ bit_and (a ⊕ b) m) ≡ bit k m + bit k a + bit k b
word_adder k a b m =
    simp (bit-xor, bit-and)
    (three-bits (λ a b d. differ (differ a b) d + 2 * differ (min a b) (min (differ a b) d) ≡ d + a + b)
    refl refl refl refl refl refl refl refl (bit k a) (bit k b) (bit k m) (bit-small k a) (bit-small k b) (bit-small k m))

-- as the code stores it
pub word-added : (p a b m : ℕ) (x : List ℕ) → p < 256 → length x ≡ 256
    → WordAdded p a b m x (set x p (a ⊕ b ⊕ m)) (bit_and a b ⊕ bit_and (a ⊕ b) m)
word-added p a b m x hp hx =
    let u = a ⊕ b ⊕ m in
    let v = bit_and a b ⊕ bit_and (a ⊕ b) m in
    record {
      size = length-set x p u ∙ hx;
      sum = λ k. ap (λ (s : ℕ). bit k s + 2 * bit k v) (get_or-set_same x p u 0 (omega arith)) ∙ word_adder k a b m;
      same = λ q h. get_or-set_other x p q u 0 h;
    }

-- a row of which j words are added
pub added-first : (m i : ℕ) (a x y : List ℕ) → length x ≡ 256 → length y ≡ 8 → RowAdded m i 0 a x y x y
added-first m i a x y hx hy =
    record { size_x = hx; size_y = hy; sum = λ q k hq. absurd (omega arith); same_x = λ p h. refl; same_y = λ q h. refl }

pub added_next : (m i : ℕ) (a x₀ y₀ : List ℕ) (j c : ℕ) (x y x' : List ℕ) → j < 8
    → WordAdded (8 * i + j) (get_or a j 0) (get_or y j 0) m x x' c
    → RowAdded m i j a x₀ y₀ x y → RowAdded m i (j + 1) a x₀ y₀ x' (set y j c)
added_next m i a x₀ y₀ j c x y x' hj W R =
    let ly = R.size_y in
    record {
      size_x = W.size;
      size_y = length-set y j c ∙ ly;
      sum = λ q k hq.
          word_more j c y (omega arith)
          (λ z t. bit k (get_or x' (8 * i + z) 0) + 2 * bit k t ≡ bit k m + bit k (get_or a z 0) + bit k (get_or y₀ z 0))
          (rw (← R.same_y j (omega arith)) (W.sum k)) (λ z h. rw (W.same (8 * i + z) (λ e. omega arith)) (R.sum z k h)) q hq;
      same_x = λ z h. W.same z (λ e. h j (omega arith) e) ∙ R.same_x z (λ q g e. h q (omega arith) e);
      same_y = λ q h. get_or-set_other y j q c 0 (λ e. omega arith) ∙ R.same_y q (omega arith);
    }

-- the number of one bit more
pack-suc : (k : ℕ) (f : ℕ → ℕ) → pack (suc k) f ≡ pack k f + 2 ^ k * f k
unfolding pack
pack-suc zero f = omega arith
pack-suc (suc k) f = ap (λ (z : ℕ). z * 2 + f 0) (pack-suc k (λ i. f (suc i))) ∙ rw (pow-suc 2 k) (omega arith)

pack-next : (k : ℕ) (f : ℕ → ℕ) → pack (k + 1) f ≡ pack k f + 2 ^ k * f k
pack-next k f = rw (add-one k) (pack-suc k f)

-- the low i bits of lane e
pub low : List ℕ → ℕ → ℕ → ℕ
low x e i = pack i (λ k. bit (e / 8) (get_or x (8 * k + e % 8) 0))

-- the low i bits of w, added in every lane; the rows from i on stand as they were
pub record Rippled (w i : ℕ) (x₀ y₀ x y : List ℕ) : Type 0 where
  pub sum : (e : ℕ) → e < 512 → low x e i + 2 ^ i * carry_at y e ≡ pack i (λ k. bit k w) + low x₀ e i + carry_at y₀ e
  pub rest : (p : ℕ) → 8 * i ≤ p → get_or x p 0 ≡ get_or x₀ p 0

pub rippled_first : (w : ℕ) (x y : List ℕ) → Rippled w 0 x y x y
unfolding low pack
rippled_first w x y = record { sum = λ e he. omega arith; rest = λ p h. refl }

pub rippled_next : (w i m : ℕ) (a x₀ y₀ x y x' y' : List ℕ) → ((k : ℕ) → k < 64 → bit k m ≡ bit i w)
    → ((q : ℕ) → q < 8 → get_or a q 0 ≡ get_or x (8 * i + q) 0) → Rippled w i x₀ y₀ x y → RowAdded m i 8 a x y x' y'
    → Rippled w (i + 1) x₀ y₀ x' y'
unfolding low carry_at
rippled_next w i m a x₀ y₀ x y x' y' hm ha P R =
    record {
      sum = λ e he.
          let p = 8 * i + e % 8 in
          let f : List ℕ → ℕ → ℕ = λ l k. bit (e / 8) (get_or l (8 * k + e % 8) 0) in
          let kept : low x' e i ≡ low x e i =
          pack-below i (f x') (f x) (λ k h. ap (bit (e / 8)) (R.same_x (8 * k + e % 8) (λ q g z. omega arith))) in
          let was : bit (e / 8) (get_or a (e % 8) 0) ≡ bit (e / 8) (get_or x₀ p 0) =
          ap (bit (e / 8)) (ha (e % 8) (omega arith) ∙ P.rest p (omega arith)) in
          let row : bit (e / 8) (get_or x' p 0) + 2 * carry_at y' e ≡ bit i w + bit (e / 8) (get_or x₀ p 0) + carry_at y e =
          R.sum (e % 8) (e / 8) (omega arith) ∙ ap₂ (λ (u v : ℕ). u + v + carry_at y e) (hm (e / 8) (omega arith)) was in
          let double : 2 ^ (i + 1) ≡ 2 ^ i * 2 = rw (add-one i) (pow-suc 2 i) in
          let weighed = ap (λ (v : ℕ). 2 ^ i * v) row in
          let before = P.sum e he in
          rw (pack-next i (f x'), pack-next i (f x₀), pack-next i (λ k. bit k w), kept, double) (omega arith);
      rest = λ p h. R.same_x p (λ q g e. omega arith) ∙ P.rest p (omega arith);
    }

pub rippled_last : (w i : ℕ) (x₀ y₀ x y : List ℕ) → i ≡ 32 → w < 2 ^ 32 → Rippled w i x₀ y₀ x y → Added w x₀ y₀ x y
unfolding low lane
rippled_last w i x₀ y₀ x y h hw P e he =
    let whole : pack 32 (λ k. bit k w) ≡ w = pack_is 32 (λ k. bit k w) w (λ k. bit-small k w) hw (λ k g. refl) in
    (rw h at (P.sum e he)) ∙ ap (λ (v : ℕ). v + low x₀ e 32 + carry_at y₀ e) whole
