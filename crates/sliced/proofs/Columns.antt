-- The S-boxes of a byte, column by column.
use Rattle.sliced.proofs.Names.{Held, List, Masks, Sbox, SboxLanes, ◌%◌, ◌*◌, ◌+◌, ◌-◌, ◌/◌, ◌<◌, ◌^◌, ◌∙◌, ◌≡◌, ◌≤◌}
use Rattle.sliced.proofs.Names.{add-zero, ap, ap₂, arith, bit, bit-mod, bit-pack, bit-shr, bit-small, bit-xor, byte_lane, column}
use Rattle.sliced.proofs.Names.{each8, get_or, keyed, lane, lit<, lt-or-le, mod-eq_of_lt, mod-lt, one_more, pack, pack_is}
use Rattle.sliced.proofs.Names.{refl, subbed, summed, sym, tau-bit, ℕ, ⊎_elim}
use Rattle.sliced.proofs.Held.{held_lane}

column-word : (x y z m : List ℕ) (p i : ℕ) → i < 8 → get_or (column x y z m p) i 0 ≡ summed x y z m (p + 8 * i) i
column-word x y z m p =
    each8 _ (ap (λ (q : ℕ). summed x y z m q 0) (sym (add-zero p))) refl refl refl refl refl refl refl

-- the bits of byte b in lane n of column j
module _ (x y z m : List ℕ) (k b j n : ℕ) (hb : b < 4) (hj : j < 8) (hn : n < 64) (hm : Masks 8 (λ i. bit (8 * b + i) k) m) where
  sum-bit : (q i : ℕ) → i < 8 → q ≡ 64 * b + j + 8 * i → bit n (summed x y z m q i) ≡ bit (8 * b + i) (keyed x y z k (8 * n + j))
  unfolding keyed
  sum-bit q i hi e =
      let u : q / 8 % 32 ≡ 8 * b + i = omega arith in
      let v : 8 * n + q % 8 ≡ 8 * n + j = omega arith in
      let h : (l : List ℕ) → bit n (get_or l q 0) ≡ bit (8 * b + i) (lane l (8 * n + j)) =
      λ l. held_lane l 8 q n (omega arith) (omega arith) hn ∙ ap₂ (λ (a c : ℕ). bit a (lane l c)) u v in
      simp (bit-xor, h, hm i n hi hn)

  in_bit : (i : ℕ) → i < 8 → bit n (get_or (column x y z m (64 * b + j)) i 0) ≡ bit (8 * b + i) (keyed x y z k (8 * n + j))
  in_bit i h = ap (bit n) (column-word x y z m (64 * b + j) i h) ∙ sum-bit (64 * b + j + 8 * i) i h refl

  out-bit : (o : List ℕ) → SboxLanes (column x y z m (64 * b + j)) o → (i : ℕ) → i < 8
      → bit n (get_or o i 0) ≡ bit (8 * b + i) (subbed x y z k (8 * n + j))
  unfolding byte_lane pack
  out-bit o ho i hi =
      let w = keyed x y z k (8 * n + j) in
      let q = column x y z m (64 * b + j) in
      let g : byte_lane q n ≡ w / 2 ^ (8 * b) % 256 =
      pack_is 8 (λ a. bit n (get_or q a 0)) (w / 2 ^ (8 * b) % 256) (λ a. bit-small n (get_or q a 0)) (mod-lt (w / 2 ^ (8 * b)) (lit< tt))
      (λ a ha. in_bit a ha ∙ sym (bit-mod 8 a (w / 2 ^ (8 * b)) ha ∙ bit-shr (8 * b) a w)) in
      sym (bit-pack 8 (λ a. bit n (get_or o a 0)) (λ a. bit-small n (get_or o a 0)) i hi)
      ∙ ap (bit i) (ho n hn ∙ ap Sbox g)
      ∙ sym (tau-bit b i w hb hi)

-- the bytes below byte b are done in n columns, and byte b in the first j
abbrev pub Columns : (ℕ → ℕ) → ℕ → ℕ → ℕ → List ℕ → Type 0
Columns f n b j s =
    Held f n (64 * b) s
    × ((c i k : ℕ) → c < j → i < 8 → k < 64 → bit k (get_or s (64 * b + c + 8 * i) 0) ≡ bit (8 * b + i) (f (8 * k + c)))

pub columns_first : (f : ℕ → ℕ) (n b : ℕ) (s : List ℕ) → Held f n (64 * b) s → Columns f n b 0 s
columns_first f n b s h = (h, λ c i k g. absurd (omega arith))

pub columns_last : (f : ℕ → ℕ) (n b j : ℕ) (s : List ℕ) → b < 4 → n ≤ j → Columns f n b j s → Held f n (64 * b + 64) s
columns_last f n b j s hb hj C p k hp hc hk =
    ⊎_elim (λ (g : p < 64 * b). C.0 p k g hc hk)
    (λ (g : 64 * b ≤ p).
    let i = p / 8 - 8 * b in
    let e : p ≡ 64 * b + p % 8 + 8 * i = omega arith in
    let r : p / 8 < 32 = omega arith in
    let u : 8 * b + i ≡ p / 8 = omega arith in
    ap (λ (q : ℕ). bit k (get_or s q 0)) e ∙ C.1 (p % 8) i k (omega arith) (omega arith) hk
    ∙ ap (λ (r : ℕ). bit r (f (8 * k + p % 8))) (u ∙ sym (mod-eq_of_lt r))) (lt-or-le p (64 * b))

module _ (x y z m : List ℕ) (key n b j : ℕ) (s t o : List ℕ) (hb : b < 4) (hj : j < 8) (hm : Masks 8 (λ i. bit (8 * b + i) key) m)
    (ho : SboxLanes (column x y z m (64 * b + j)) o) (placed : (i : ℕ) → i < 8 → get_or t (64 * b + j + 8 * i) 0 ≡ get_or o i 0)
    (kept : (q : ℕ) → ((i : ℕ) → i < 8 → q ≡ 64 * b + j + 8 * i → ⊥) → get_or t q 0 ≡ get_or s q 0) where
  pub columns_next : Columns (subbed x y z key) n b j s → Columns (subbed x y z key) n b (j + 1) t
  columns_next C = (
    λ p k hp hc hk. ap (bit k) (kept p (λ i h e. omega arith)) ∙ C.0 p k hp hc hk,
    λ c i k hc hi hk.
        one_more (λ c. bit k (get_or t (64 * b + c + 8 * i) 0) ≡ bit (8 * b + i) (subbed x y z key (8 * k + c))) j
        (ap (bit k) (placed i hi)
        ∙ out-bit x y z m key b j k hb hj hk hm o ho i hi)
        (λ c g. ap (bit k) (kept (64 * b + c + 8 * i) (λ r h e. omega arith)) ∙ C.1 c i k g hi hk) c hc,
  )
