-- GCM, NIST SP 800-38D, over round keys, H and J0.
use Rattle.std.specs.Prelude.{ℕ, ◌-◌, Bool, cond, List, [], ◌∷◌, ◌++◌, eqb, length, take, drop, replicate}
use Rattle.block.specs.BigEndian.{number_of, bytes_of}
use Rattle.block.specs.Same.{same}
use Rattle.block.specs.Xor.{xors}
use Rattle.cipher.specs.Sm4.{encrypt_block}
use Rattle.counter.specs.Counter.{gcm_next}
use Rattle.ghash.specs.Ghash.{ghash, auth_blocks}
use Rattle.block.specs.Over.{over}
use Rattle.walk.specs.Walk.{chain}
use Rattle.stream.specs.Stream.{stream_mode}
use Rattle.stream.specs.declared.Kind.TheVariants.{Gctr}

-- H: the cipher of sixteen zero bytes
unfoldable pub hash_key : List ℕ → ℕ
hash_key rk = number_of (encrypt_block rk (replicate 16 0))

-- J0 of a 12-byte IV: the IV, and then 00000001
abbrev pub nonce_counter : List ℕ → List ℕ
nonce_counter iv = iv ++ (0 ∷ 0 ∷ 0 ∷ 1 ∷ [])

-- J0 of a 16-byte IV: the hash of the IV, and of 8 zero bytes and the number 128 in 8 bytes
abbrev pub hashed_counter : ℕ → List ℕ → List ℕ
hashed_counter h iv = bytes_of 16 (ghash h (number_of iv ∷ 128 ∷ []))

-- J0, by the length of the IV: section 7.1, step 2. Gcm takes no other lengths.
unfoldable pub first_counter : ℕ → List ℕ → List ℕ
first_counter h iv = cond (eqb (length iv) 12) (nonce_counter iv) (hashed_counter h iv)

-- J0 of an IV under round keys
abbrev pub J0 : List ℕ → List ℕ → List ℕ
J0 rk iv = first_counter (hash_key rk) iv

-- the text, either way: counters start one after J0
unfoldable pub text_of : List ℕ → List ℕ → List ℕ → List ℕ
text_of rk j d = chain (stream_mode Gctr rk) (gcm_next j) d

-- the hash of a label and a ciphertext under a mask
abbrev pub masked_tag : List ℕ → ℕ → List ℕ → List ℕ → List ℕ
masked_tag mask h label text = xors mask (bytes_of 16 (ghash h (auth_blocks label text)))

-- their tag: the mask is the cipher of J0
unfoldable pub tag_of : List ℕ → ℕ → List ℕ → List ℕ → List ℕ → List ℕ
tag_of rk h j label text = masked_tag (encrypt_block rk j) h label text

-- the sealed message: ciphertext, then tag
unfoldable pub sealed : List ℕ → ℕ → List ℕ → List ℕ → List ℕ → List ℕ
sealed rk h j label d = text_of rk j d ++ tag_of rk h j label (text_of rk j d)

-- its two parts: all but the last sixteen bytes, and those
abbrev pub text_part : List ℕ → List ℕ
text_part s = take (length s - 16) s

abbrev pub tag_part : List ℕ → List ℕ
tag_part s = drop (length s - 16) s

-- whether a sealed message opens under a label
unfoldable pub opens_under : List ℕ → ℕ → List ℕ → List ℕ → List ℕ → Bool
opens_under rk h j label s = same (tag_part s) (tag_of rk h j label (text_part s))

-- opening the message s into the output o: where it opens its text over the front; otherwise o is as it was lent
unfoldable pub text_into : List ℕ → ℕ → List ℕ → List ℕ → List ℕ → List ℕ → List ℕ
text_into rk h j label s o = cond (opens_under rk h j label s) (over (text_of rk j (text_part s)) o) o
