-- Interleaved hashes, joined at the end, are one hash. For lists of one length n, and from 0 on: the hash of sums is the sum of the
-- hashes, and the hash of multiples the multiple of the hash. So blocks Z times H to the n, with blocks C added, hash as C does from the
-- hash of Z on.
use Rattle.ghash.proofs.Names.{AreBytes, Element, Hashed, List, Starts, [], ◌*◌, ◌++◌, ◌+◌, ◌-◌, ◌<◌, ◌∙◌, ◌∷◌, ◌≡◌, ◌≢◌, ◌≤◌}
use Rattle.ghash.proofs.Names.{◌⊕◌, add-zero, ap, ap₂, arith, below-drop, block_count, block_number, blocks, drop, drop-drop, ghash}
use Rattle.ghash.proofs.Names.{gmul, gmul_assoc, gmul_comm, gmul-lt, gpow, gpow-lt, hash_from, length, length-drop, lit<}
use Rattle.ghash.proofs.Names.{number_of, refl, suc, suc-add, sym, take, unwords, up_to, words, xor-gmul}
use Rattle.ghash.proofs.Names.{xor_lt, xor_zero_r, xors, zero, zero-add, zero-gmul, ℕ}
use Rattle.ghash.proofs.Blocks.{length-up_to, blocks-up_to, block_of-words, lent_all}
use Rattle.ghash.proofs.Join.{hash-append, hash-xors, ghash-lt, hash_from-start}

pub up_to-same : (n : ℕ) (f g : ℕ → ℕ) → ((i : ℕ) → i < n → f i ≡ g i) → up_to n f ≡ up_to n g
unfolding up_to
up_to-same zero f g h = refl
up_to-same (suc n) f g h = ap₂ ◌∷◌ (h 0 (omega arith)) (up_to-same n (λ i. f (suc i)) (λ i. g (suc i)) (λ i k. h (suc i) (omega arith)))

pub up_to-append : (m n : ℕ) (f : ℕ → ℕ) → up_to m f ++ up_to n (λ i. f (m + i)) ≡ up_to (m + n) f
unfolding up_to
up_to-append zero n f = simp zero-add
up_to-append (suc m) n f = simp suc-add (ap (λ (l : List ℕ). f 0 ∷ l) (up_to-append m n (λ i. f (suc i))))

pub up_to-next : (n : ℕ) (f : ℕ → ℕ) → up_to n f ++ (f n ∷ []) ≡ up_to (n + 1) f
unfolding up_to
up_to-next n f = simp add-zero at (up_to-append n 1 f)

up_to-xors : (n : ℕ) (f g : ℕ → ℕ) → xors (up_to n f) (up_to n g) ≡ up_to n (λ i. f i ⊕ g i)
unfolding up_to
up_to-xors zero f g = refl
up_to-xors (suc n) f g = ap (λ (l : List ℕ). (f 0 ⊕ g 0) ∷ l) (up_to-xors n (λ i. f (suc i)) (λ i. g (suc i)))

-- block k of the bytes from block b on
drop_block : (bs : List ℕ) (b k : ℕ) → block_number (drop (16 * b) bs) k ≡ block_number bs (b + k)
drop_block bs b k =
    let e : 16 * b + 16 * k ≡ 16 * (b + k) = omega arith in rw (drop-drop (16 * k) (16 * b) bs, e)

-- the first k blocks of bytes, one by one, and the rest
pub blocks_cut : (k : ℕ) (bs : List ℕ) → 16 * k ≤ length bs → up_to k (block_number bs) ++ blocks (drop (16 * k) bs) ≡ blocks bs
blocks_cut k bs h =
    let n : k + block_count (length (drop (16 * k) bs)) ≡ block_count (length bs) = simp length-drop (omega arith) in
    rw (blocks-up_to (drop (16 * k) bs), blocks-up_to bs, ← n, up_to-same _ _ _ (λ i l. drop_block bs k i)) (up_to-append k _ (block_number bs))

-- as `&bs[16 * b..]` is lent
pub lent-block : (bs : List ℕ) (b k : ℕ) → block_number (take (length bs - 16 * b) (drop (16 * b) bs)) k ≡ block_number bs (b + k)
lent-block bs b k = rw (lent_all bs (16 * b)) (drop_block bs b k)

-- and the number of block k by its words
pub lent-number : (bs : List ℕ) (k : ℕ) (w : List ℕ) → AreBytes bs → w ≡ words (take (length bs - 16 * k) (drop (16 * k) bs))
    → number_of (unwords w) ≡ block_number bs k
lent-number bs k w h e = rw (e, lent_all bs (16 * k)) (block_of-words (drop (16 * k) bs) (below-drop 256 (16 * k) bs h))

-- y in the first of sixteen numbers, the others of which are 0
pub starts_first : (n y : ℕ) (f : ℕ → ℕ) → f 0 ≡ y → ((k : ℕ) → k ≢ 0 → f k ≡ 0) → Starts n y f
starts_first n y f e h = record { first = e; others = λ k _. h (suc k) (λ z. cc) }

module _ (h : ℕ) where
  -- a first set added is hashed: at first y waits
  pub hashed-first : (n y : ℕ) (f g c : ℕ → ℕ) → 1 ≤ n → Starts n y f → ((k : ℕ) → k < n → g k ≡ f k ⊕ c k) → Hashed h y (up_to n c) n g
  unfolding up_to hash_from
  hashed-first zero y f g c l s e = absurd (omega arith)
  hashed-first (suc n) y f g c l s e =
      let z : g 0 ≡ y ⊕ c 0 = e 0 (omega arith) ∙ rw s.first in
      ap₂ (λ (x : ℕ) (l : List ℕ). hash_from h (gmul x h) l) z
      (up_to-same n (λ k. g (suc k)) (λ k. c (suc k)) (λ k i. e (suc k) (omega arith) ∙ rw (s.others k (omega arith))))

  module _ (hh : Element h) where
    hash-times : (k : ℕ) → Element k → (n y : ℕ) (f : ℕ → ℕ) → Element y → ((i : ℕ) → i < n → Element (f i))
        → hash_from h (gmul y k) (up_to n (λ i. gmul (f i) k)) ≡ gmul (hash_from h y (up_to n f)) k
    unfolding up_to hash_from
    hash-times k hk zero y f hy hf = refl
    hash-times k hk (suc n) y f hy hf =
        let v = y ⊕ f 0 in
        let hv = xor_lt 128 y (f 0) hy (hf 0 (omega arith)) in
        rw (hash_from, ← xor-gmul y (f 0) k, gmul_assoc v k h hv hk hh, gmul_comm k h hk hh, ← gmul_assoc v h k hv hh hk)
        (hash-times k hk n (gmul v h) (λ i. f (suc i)) (gmul-lt v h hh) (λ i g. hf (suc i) (omega arith)))

    interleaved : (n : ℕ) (f c : ℕ → ℕ) → ((i : ℕ) → i < n → Element (f i))
        → ghash h (up_to n (λ i. gmul (f i) (gpow h n) ⊕ c i)) ≡ hash_from h (ghash h (up_to n f)) (up_to n c)
    interleaved n f c hf =
        let k = gpow h n in
        let y = ghash h (up_to n f) in
        ap (ghash h) (sym (up_to-xors n (λ i. gmul (f i) k) c))
        ∙ hash-xors h 0 0 (up_to n (λ i. gmul (f i) k)) (up_to n c) (length-up_to n _ ∙ sym (length-up_to n c))
        ∙ rw (rw (zero-gmul k) at (hash-times k (gpow-lt h n) n 0 f (lit< tt) hf))
        (sym (simp (xor_zero_r, length-up_to) at (hash_from-start h hh (up_to n c) y 0 (ghash-lt h hh (up_to n f)))))

    -- hashes that are multiplied, and to which the next set is added
    pub hashed-next : (n y b p : ℕ) (a c f g q : ℕ → ℕ) → p ≡ gpow h n → ((k : ℕ) → c k ≡ a (b + k)) → ((k : ℕ) → k < n → Element (f k))
        → Hashed h y (up_to b a) n f → ((k : ℕ) → k < n → g k ≡ gmul (f k) p) → ((k : ℕ) → k < n → q k ≡ g k ⊕ c k)
        → Hashed h y (up_to (b + n) a) n q
    hashed-next n y b p a c f g q power from hf done times added =
        ap (ghash h)
        (up_to-same n q (λ k. gmul (f k) (gpow h n) ⊕ a (b + k))
        (λ k l. added k l ∙ rw (times k l, power, from k)))
        ∙ interleaved n f (λ k. a (b + k)) hf
        ∙ rw (done, ← hash-append h y (up_to b a), up_to-append b n a)
