-- How a call ends: refused by a check, or done with what the work wrote.
use Rattle.block.proofs.Base.{◌<◌, ℕ, ◌∙◌, ◌≡◌, ap, ap₂, refl, sym, Bool, ◌&&◌, List, eqb, get_or, length}
use Rattle.block.specs.Words.{words, unwords}
use Rattle.block.proofs.Entries.{below_each}
use Rattle.block.proofs.WordsBack.{length-unwords, unwords-words}
use Rattle.cipher.specs.Sm4.{encrypt_words, decrypt_words, encrypt_block, decrypt_block}
use Rattle.cipher_mode.specs.Outcome.{Head, Outcome, finished, telling, leaving, reporting, done}
use Rattle.block.specs.Over.{over}
use Rattle.cipher_mode.specs.declared.Direction.{Direction}
use Rattle.cipher_mode.specs.declared.Direction.TheVariants.{Encrypt, Decrypt}
use Rattle.cipher_mode.specs.Calls.{keys_for, block_of}

-- a report that is another leaves what that leaves
pub leaves : {h i : Head} {x : Outcome} (o : List ℕ) → h ≡ i → leaving i o ≡ x → leaving h o ≡ x
leaves o e f = ap {B = Outcome} (λ (h : Head). leaving h o) e ∙ f

-- the result p was written to the front of the output, and n is its length
pub reached : (p o o' : List ℕ) (n : ℕ) → length p ≡ n → o' ≡ over p o → leaving (finished n) o' ≡ done p o
reached p o o' n l e = ap₂ {C = Outcome} leaving (ap finished (sym l)) e

-- the work left the outcome x, which is done, and told b of its counter
pub told_of : (b t : Bool) (h : Head) (o : List ℕ) (x : Outcome) → b ≡ t → leaving h o ≡ x → x.head.number ≡ 0
    → leaving (telling b h) o ≡ reporting t x
told_of b t h o x e f z =
    let tells : b ≡ (eqb x.head.number 0 && t) = rw z e in
    ap {B = Outcome} (λ (y : Outcome). leaving (telling b y.head) y.bytes) f
    ∙ ap {B = Outcome} (λ (u : Bool). leaving (telling u x.head) x.bytes) tells

-- a block by a direction is what the cipher makes of its words under that direction's round keys
pub block_by : (dir : Direction) (rk b : List ℕ) → unwords (encrypt_words (keys_for dir rk) (words b)) ≡ block_of dir rk b
unfolding encrypt_block decrypt_block decrypt_words
block_by Encrypt rk b = refl
block_by Decrypt rk b = refl

pub length-block : (dir : Direction) (rk b : List ℕ) → length (block_of dir rk b) ≡ 16
length-block dir rk b = rw (← block_by dir rk b) (length-unwords (encrypt_words (keys_for dir rk) (words b)))

-- the words of a 16-byte IV spell it
pub spelled : (iv w : List ℕ) → length iv ≡ 16 → ((i : ℕ) → get_or iv i 0 < 256) → w ≡ words iv → unwords w ≡ iv
spelled iv w n small e = ap unwords e ∙ unwords-words iv n (below_each 256 iv small)
