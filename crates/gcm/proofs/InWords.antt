-- The code is the definitions: H, J0, the tag, and a sealed message written in two parts.
use Rattle.gcm.proofs.Names.{AreBytes, Gctr, List, [], ◌++◌, ◌∙◌, ◌∷◌, ◌≡◌, ap, auth_blocks, bytes_of, chain, drop}
use Rattle.gcm.proofs.Names.{encrypt-unwords, encrypt_words, gcm_next, ghash, hash_key, hashed_counter, iv-blocks, length, length-words}
use Rattle.gcm.proofs.Names.{lit<, masked_tag, nonce_counter, number_of, over, over-behind, refl, returned, sealed, stream_mode}
use Rattle.gcm.proofs.Names.{tag_of, tailed, take, take_at, text_of, unwords, unwords-number, unwords_twelve, unwords-xors}
use Rattle.gcm.proofs.Names.{word_at, words, xors, ℕ}
use Rattle.gcm.proofs.Parts.{length-text, length-tag}

pub hash-key-words : (rk x : List ℕ) (n : ℕ) → x ≡ encrypt_words rk (0 ∷ 0 ∷ 0 ∷ 0 ∷ []) → n ≡ number_of (unwords x) → n ≡ hash_key rk
unfolding hash_key unwords bytes_of
hash-key-words rk x n e f =
    f ∙ ap (λ (l : List ℕ). number_of (unwords l)) e
    ∙ ap number_of (encrypt-unwords rk (0 ∷ 0 ∷ 0 ∷ 0 ∷ []) refl (lit< tt, (lit< tt, (lit< tt, (lit< tt, tt)))))

pub nonce_counter_words : (iv : List ℕ) (a b c : ℕ) → length iv ≡ 12 → AreBytes iv
    → a ≡ word_at iv 0 → b ≡ word_at iv 4 → c ≡ word_at iv 8 → unwords (a ∷ b ∷ c ∷ 1 ∷ []) ≡ nonce_counter iv
unfolding bytes_of
nonce_counter_words iv a b c n small ea eb ec = rw (ea, eb, ec) (unwords_twelve iv 1 n small)

pub hashed_counter_words : (h n : ℕ) (iv r : List ℕ) → length iv ≡ 16 → n ≡ ghash h (auth_blocks [] iv) → r ≡ words (bytes_of 16 n)
    → unwords r ≡ hashed_counter h iv
hashed_counter_words h n iv r l e f = unwords-number r n f ∙ ap (bytes_of 16) (e ∙ ap (ghash h) (iv-blocks iv l))

-- s has the words of the hash, and r those of the mask xored with them
pub masked-words : (mask label text s r : List ℕ) (h n : ℕ) → length mask ≡ 4 → n ≡ ghash h (auth_blocks label text)
    → s ≡ words (bytes_of 16 n) → r ≡ xors mask s → unwords r ≡ masked_tag (unwords mask) h label text
masked-words mask label text s r h n l en es er =
    ap unwords er ∙ unwords-xors mask s l (ap length es ∙ length-words (bytes_of 16 n))
    ∙ ap (xors (unwords mask)) (unwords-number s n es ∙ ap (bytes_of 16) en)

-- the text was written to the front of the output, and the tag of what stands there behind it
pub sealed-written : (rk : List ℕ) (h : ℕ) (j label d o o₁ t tag : List ℕ) → o₁ ≡ over (text_of rk j d) o
    → tag ≡ tag_of rk h j label (take (length d) o₁) → t ≡ tag ++ drop 16 (tailed (length d) o₁)
    → returned (length d) o₁ t ≡ over (sealed rk h j label d) o
unfolding sealed
sealed-written rk h j label d o o₁ t tag e g f =
    let text = text_of rk j d in
    let n = length-text rk j d in
    let front : take (length d) o₁ ≡ text = rw e (take_at text (drop (length text) o) (length d) n) in
    let is-tag : tag ≡ tag_of rk h j label text = g ∙ ap (tag_of rk h j label) front in
    over-behind text (tag_of rk h j label text) o o₁ t (length d) n e (f ∙ rw (is-tag, length-tag rk h j label text))

-- the counters of the text start one after J0
pub text-words : (rk j next d : List ℕ) → next ≡ gcm_next j → chain (stream_mode Gctr rk) next d ≡ text_of rk j d
unfolding text_of
text-words rk j next d e = ap (λ (s : List ℕ). chain (stream_mode Gctr rk) s d) e
