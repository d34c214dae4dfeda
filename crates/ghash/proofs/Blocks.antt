-- Bytes as blocks: block by block, joined at a block's end, and with one more zero byte.
use Rattle.ghash.proofs.Names.{AreBytes, Element, List, [], ◌%◌, ◌*◌, ◌++◌, ◌+◌, ◌-◌, ◌/◌, ◌<◌, ◌∙◌, ◌∷◌, ◌≡◌, ◌≢◌, ◌≤◌, ap}
use Rattle.ghash.proofs.Names.{append_assoc, ap₂, arith, below-append, below-replicate, below-take, block_count, block_number, block_of}
use Rattle.ghash.proofs.Names.{blocks, blocks_from, drop, drop-append-le, drop-drop, drop_of_length-le, ext_get_or, get_or, get_or-drop}
use Rattle.ghash.proofs.Names.{get_or-take, le_of_eq, length, length-append, length-drop, length-take, length-take-le, lit<, number_of}
use Rattle.ghash.proofs.Names.{number_of-lt, number_of-same, refl, replicate, suc, sym, take, take_all, take-append-drop}
use Rattle.ghash.proofs.Names.{take-append-le, take_at, unwords, unwords-words, up_to, words, words_same, words_take, zero, ℕ}

-- the zeros after a list read like its end
pub get_or-zeros : (n i : ℕ) → ◌≡◌ {A = ℕ} (get_or (replicate n 0) i 0) 0
get_or-zeros zero i = refl
get_or-zeros (suc n) zero = refl
get_or-zeros (suc n) (suc i) = get_or-zeros n i

-- what is filled up with zeros reads like its front
get_or-filled : (bs zs : List ℕ) → ((i : ℕ) → ◌≡◌ {A = ℕ} (get_or zs i 0) 0) → (i : ℕ) → get_or (bs ++ zs) i 0 ≡ get_or bs i 0
get_or-filled [] zs z i = z i
get_or-filled (b ∷ bs) zs z zero = refl
get_or-filled (b ∷ bs) zs z (suc i) = get_or-filled bs zs z i

pub get_or-before-zeros : (bs : List ℕ) (n i : ℕ) → get_or (bs ++ replicate n 0) i 0 ≡ get_or bs i 0
get_or-before-zeros bs n = get_or-filled bs (replicate n 0) (get_or-zeros n)

-- as `load_block` fills a block up
pub words-filled : (bs : List ℕ) (n : ℕ) → words (bs ++ drop n (replicate 16 0)) ≡ words bs
words-filled bs n =
    words_same _ bs (λ i _. get_or-filled bs _ (λ j. get_or-drop n (replicate 16 0) j 0 ∙ get_or-zeros 16 (n + j)) i)

-- the sixteen bytes of a block
abbrev padded : List ℕ → List ℕ
padded bs = take 16 (bs ++ replicate 16 0)

padded-length : (bs : List ℕ) → length (padded bs) ≡ 16
padded-length bs = length-take-le 16 (bs ++ replicate 16 0) (simp length-append (omega arith))

padded-bytes : (bs : List ℕ) → AreBytes bs → AreBytes (padded bs)
padded-bytes bs h = below-take 256 16 (bs ++ replicate 16 0) (below-append 256 bs (replicate 16 0) h (below-replicate 256 16 0 (lit< tt)))

pub block_of-lt : (bs : List ℕ) → AreBytes bs → Element (block_of bs)
unfolding block_of
block_of-lt bs h = rw (padded-length bs) at (number_of-lt (padded bs) (padded-bytes bs h))

-- a block that is full stands for itself, whatever follows
block_of-front : (p q : List ℕ) → 16 ≤ length p → block_of (p ++ q) ≡ block_of p
unfolding block_of
block_of-front p q h = rw (append_assoc p, take-append-le 16 p (q ++ replicate 16 0), take-append-le 16 p (replicate 16 0))

padded-at : (bs : List ℕ) (i : ℕ) → i < 16 → get_or (padded bs) i 0 ≡ get_or bs i 0
padded-at bs i h = get_or-take 16 (bs ++ replicate 16 0) i 0 h ∙ get_or-before-zeros bs 16 i

-- lists that read alike make the same blocks
block_of-alike : (a b : List ℕ) → ((i : ℕ) → get_or a i 0 ≡ get_or b i 0) → block_of a ≡ block_of b
unfolding block_of
block_of-alike a b e =
    ap number_of
    (ext_get_or 0 (padded a) (padded b) (padded-length a ∙ sym (padded-length b))
    (λ i l. let h : i < 16 = rw (padded-length a) at l in rw (padded-at a i h, padded-at b i h) (e i)))

blocks_from-alike : (k : ℕ) (a b : List ℕ) → ((i : ℕ) → get_or a i 0 ≡ get_or b i 0) → blocks_from k a ≡ blocks_from k b
unfolding blocks_from
blocks_from-alike zero a b e = refl
blocks_from-alike (suc k) a b e =
    ap₂ ◌∷◌ (block_of-alike a b e) (blocks_from-alike k _ _ (λ i. rw (get_or-drop 16 a i 0, get_or-drop 16 b i 0) (e (16 + i))))

pub block_of-same : (a b : List ℕ) → length a ≡ length b → AreBytes a → AreBytes b → block_of a ≡ block_of b → take 16 a ≡ take 16 b
unfolding block_of
block_of-same a b l ha hb e =
    let same = number_of-same (padded a) (padded b) (padded-length a ∙ sym (padded-length b)) (padded-bytes a ha) (padded-bytes b hb) e in
    ext_get_or 0 (take 16 a) (take 16 b) (simp length-take (rw l))
    (λ i h.
    let k : i < 16 = omega (arith, length-take 16 a) in
    rw (get_or-take 16 a i 0, get_or-take 16 b i 0, ← padded-at a i k, ← padded-at b i k, same))

pub blocks-nil : blocks [] ≡ []
unfolding blocks blocks_from
blocks-nil = refl

pub blocks-cons : (bs : List ℕ) → 0 < length bs → blocks bs ≡ block_of bs ∷ blocks (drop 16 bs)
unfolding blocks blocks_from
blocks-cons bs h =
    let e : (length bs + 15) / 16 ≡ suc ((length (drop 16 bs) + 15) / 16) = simp length-drop (omega arith) in
    ap (λ (n : ℕ). blocks_from n bs) e

-- from place i on
pub blocks_at : (bs : List ℕ) (i : ℕ) → i < length bs → blocks (drop i bs) ≡ block_of (drop i bs) ∷ blocks (drop (i + 16) bs)
blocks_at bs i h = blocks-cons (drop i bs) (simp length-drop (omega arith)) ∙ rw (drop-drop 16 i bs)

pub blocks_full : (bs : List ℕ) → length bs ≡ 16 → blocks bs ≡ number_of bs ∷ []
unfolding block_of
blocks_full bs e = blocks-cons bs (omega arith) ∙ rw (take_at bs (replicate 16 0) 16 e, drop_of_length-le bs (le_of_eq e), blocks-nil)

pub length-up_to : (n : ℕ) (f : ℕ → ℕ) → length (up_to n f) ≡ n
unfolding up_to
length-up_to zero f = refl
length-up_to (suc n) f = ap suc (length-up_to n (λ i. f (suc i)))

-- one by one
blocks_from-up_to : (k : ℕ) (bs : List ℕ) → blocks_from k bs ≡ up_to k (block_number bs)
unfolding blocks_from up_to
blocks_from-up_to zero bs = refl
blocks_from-up_to (suc k) bs =
    let next : (i : ℕ) → drop (16 * suc i) bs ≡ drop (16 * i) (drop 16 bs) =
    λ i. let e : 16 + 16 * i ≡ 16 * suc i = omega arith in rw (drop-drop (16 * i) 16 bs, e) in
    simp (next, blocks_from-up_to k (drop 16 bs))

pub blocks-up_to : (bs : List ℕ) → blocks bs ≡ up_to (block_count (length bs)) (block_number bs)
unfolding blocks
blocks-up_to bs = blocks_from-up_to (block_count (length bs)) bs

pub length-blocks : (bs : List ℕ) → length (blocks bs) ≡ block_count (length bs)
length-blocks bs = rw (blocks-up_to bs) (length-up_to _ (block_number bs))

pub blocks-append : (k : ℕ) (p q : List ℕ) → length p ≡ 16 * k → blocks (p ++ q) ≡ blocks p ++ blocks q
blocks-append zero [] q h = ap (λ (l : List ℕ). l ++ blocks q) (sym blocks-nil)
blocks-append zero (x ∷ p) q h = absurd (omega arith)
blocks-append (suc k) p q h =
    blocks-cons (p ++ q) (simp length-append (omega arith))
    ∙ rw (blocks-cons p (omega arith), block_of-front p q (omega arith), drop-append-le 16 p q (omega arith))
    (rw (blocks-append k (drop 16 p) q (simp length-drop (omega arith))))

-- one more zero byte makes no other blocks, where the last one has room for it
pub blocks-zero : (bs : List ℕ) → length bs % 16 ≢ 0 → blocks (bs ++ (0 ∷ [])) ≡ blocks bs
unfolding blocks
blocks-zero bs n =
    let e : (length (bs ++ (0 ∷ [])) + 15) / 16 ≡ (length bs + 15) / 16 = simp length-append (omega (arith, n)) in
    rw e (blocks_from-alike _ (bs ++ (0 ∷ [])) bs (get_or-before-zeros bs 1))

-- lists of which two parts are the same
pub parts_same : (n : ℕ) (a b : List ℕ) → take n a ≡ take n b → drop n a ≡ drop n b → a ≡ b
parts_same n a b p q = sym (take-append-drop n a) ∙ ap₂ ◌++◌ p q ∙ take-append-drop n b

-- the rest from place n on, as `&bs[n..]` is lent
pub lent_all : (bs : List ℕ) (n : ℕ) → take (length bs - n) (drop n bs) ≡ drop n bs
lent_all bs n = take_all (length bs - n) (drop n bs) (le_of_eq (length-drop n bs))

-- the block at the front by its words
pub block_of-words : (bs : List ℕ) → AreBytes bs → number_of (unwords (words bs)) ≡ block_of bs
unfolding block_of
block_of-words bs h =
    let e = words_take (bs ++ replicate 16 0) ∙ words_same (bs ++ replicate 16 0) bs (λ i k. get_or-before-zeros bs 16 i) in
    ap number_of (ap unwords (sym e) ∙ unwords-words (padded bs) (padded-length bs) (padded-bytes bs h))
