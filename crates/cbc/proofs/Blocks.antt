-- Cbc decryption of full blocks: its front is the decrypted front, and its last block takes the last two blocks alone.
use Rattle.cbc.proofs.Names.{AreBytes, List, [], ◌%◌, ◌*◌, ◌++◌, ◌+◌, ◌-◌, ◌/◌, ◌<◌, ◌∙◌, ◌∷◌, ◌≡◌, ◌≤◌, append-nil, arith}
use Rattle.cbc.proofs.Names.{below-drop, below-take, cbc_decrypt, chain, chain-block, chain_cut, chain_length, chain-rest}
use Rattle.cbc.proofs.Names.{decrypt_block, decrypt_words, drop, drop-append-add, drop-drop, end_state, length, length-decrypt_block}
use Rattle.cbc.proofs.Names.{length-drop, length-take-le, length-xors, refl, suc, sym, tail_is, tailed, take, take_all}
use Rattle.cbc.proofs.Names.{take-append-drop, take_at, unwords, words, xors, zero, ℕ}
use Rattle.cbc.proofs.InWords.{decrypted_front}

-- what `chain_length` and `undo` are to be told: states of sixteen bytes, messages of full blocks
abbrev pub Sixteen : List ℕ → Type 0
Sixteen s = length s ≡ 16

abbrev pub Whole : List ℕ → Type 0
Whole d = length d % 16 ≡ 0

pub whole-front : (d : List ℕ) → 16 ≤ length d → Whole (take 16 d)
whole-front d h = rw (length-take-le 16 d h)

pub whole_back : (d : List ℕ) → Whole d → 16 ≤ length d → Whole (drop 16 d)
whole_back d w h = rw length-drop (omega arith)

pub whole-short : (d : List ℕ) → Whole d → length d < 16 → 0 ≡ length d
whole-short d w h = omega arith

pub whole-empty : (d : List ℕ) → Whole d → length d < 16 → [] ≡ d
whole-empty [] w h = refl
whole-empty (x ∷ d) w h = absurd (omega arith)

-- messages of full blocks, of bytes
abbrev pub Text : List ℕ → Type 0
Text d = Whole d × AreBytes d

pub text-front : (d : List ℕ) → Text d → 16 ≤ length d → Text (take 16 d)
text-front d t h = (whole-front d h, below-take 256 16 d t.1)

pub text_back : (d : List ℕ) → Text d → 16 ≤ length d → Text (drop 16 d)
text_back d t h = (whole_back d t.0 h, below-drop 256 16 d t.1)

pub decrypt-block : (rk s c : List ℕ) → length s ≡ 16 → length ((cbc_decrypt rk).block s c) ≡ 16
decrypt-block rk s c h = let n = length-decrypt_block rk c in length-xors (decrypt_block rk c) s (omega arith) ∙ n

-- as many bytes come out as go in
pub length-decrypt : (rk s d : List ℕ) → length s ≡ 16 → length d % 16 ≡ 0 → length (chain (cbc_decrypt rk) s d) ≡ length d
length-decrypt rk s d hs h = chain_length Sixteen Whole (cbc_decrypt rk) record {
  front = λ d g n. whole-front d n;
  back = λ d g n. whole_back d g n;
  next = λ s b g k n. n;
  block = λ s b g k n. decrypt-block rk s b g;
  rest = λ s d g k n. whole-short d k n;
} s d hs h

-- full blocks at the front of d
pub decrypt-front : (rk s d : List ℕ) (f : ℕ) → length s ≡ 16 → f % 16 ≡ 0 → f ≤ length d
    → chain (cbc_decrypt rk) s (take f d) ≡ take f (chain (cbc_decrypt rk) s d)
decrypt-front rk s d f hs hf hd =
    let m = cbc_decrypt rk in
    let a = take f d in
    let l : length a ≡ f = length-take-le f d hd in
    let C = chain m (end_state m s a) (drop f d) in
    let cut : chain m s d ≡ chain m s a ++ C = rw (take-append-drop f d) at (chain_cut m (drop f d) (λ x. refl) s a (rw l hf)) in
    rw cut (sym (take_at (chain m s a) C f (length-decrypt rk s a hs (rw l hf) ∙ l)))

-- the last of n + 1 blocks
last_by : (rk : List ℕ) (n : ℕ) (s d : List ℕ) → length s ≡ 16 → length d ≡ 16 * n + 16
    → drop (16 * n) (chain (cbc_decrypt rk) s d) ≡ xors (decrypt_block rk (drop (16 * n) d)) (take 16 (drop (16 * n) (s ++ d)))
last_by rk zero s d hs h =
    let m = cbc_decrypt rk in
    let z : length (drop 16 d) < 16 = rw length-drop (omega arith) in
    rw (chain-block m s d (omega arith), chain-rest m (take 16 d) (drop 16 d) z, append-nil, take_all 16 d (omega arith), take_at s d 16 hs)
last_by rk (suc n) s d hs h =
    let m = cbc_decrypt rk in
    let e : 16 * suc n ≡ 16 + 16 * n = omega arith in
    let b = take 16 d in
    let B : length b ≡ 16 = length-take-le 16 d (omega arith) in
    let A = m.block s b in
    let a : length A ≡ 16 = decrypt-block rk s b hs in
    let C = chain m b (drop 16 d) in
    let x : drop (16 + 16 * n) (A ++ C) ≡ drop (16 * n) C = rw a at (drop-append-add A C (16 * n)) in
    let y : drop (16 + 16 * n) (s ++ d) ≡ drop (16 * n) d = rw hs at (drop-append-add s d (16 * n)) in
    let i = last_by rk n b (drop 16 d) B (rw length-drop (omega arith)) in
    rw (e, chain-block m s d (omega arith), x, y, i, take-append-drop, drop-drop)

decrypt-last : (rk s d : List ℕ) → length s ≡ 16 → 16 ≤ length d → length d % 16 ≡ 0 → drop (length d - 16) (chain (cbc_decrypt rk) s d)
    ≡ xors (decrypt_block rk (drop (length d - 16) d)) (take 16 (drop (length d - 16) (s ++ d)))
decrypt-last rk s d hs h k =
    let n = length d / 16 - 1 in
    let e : 16 * n ≡ length d - 16 = omega arith in
    rw e at (last_by rk n s d hs (omega arith))

-- the last block
pub last-words : (rk s d r : List ℕ) → length s ≡ 16 → AreBytes d → 16 ≤ length d → length d % 16 ≡ 0 → length r ≡ 4
    → unwords r ≡ take 16 (drop (length d - 16) (s ++ d))
    → unwords (xors (decrypt_words rk (words (tailed (length d - 16) d))) r) ≡ drop (length d - 16) (chain (cbc_decrypt rk) s d)
last-words rk s d r hs b h k four e =
    let f = length d - 16 in
    let l : length (drop f d) ≡ 16 = rw length-drop (omega arith) in
    rw (tail_is d f) (decrypted_front rk (drop f d) r (omega arith) (below-drop 256 f d b) four
    ∙ rw (take_all 16 (drop f d) (omega arith), e) (sym (decrypt-last rk s d hs h k)))
