-- The code's four words step as the definitions' sixteen bytes do, and come round where these do.
use Rattle.block.proofs.Base.{◌%◌, ◌+◌, ◌<◌, ◌^◌, ℕ, ◌∙◌, ◌≡◌, List, [], ◌∷◌, mod-eq_of_lt, bit_or, eqb, get_or}
use Rattle.block.specs.BigEndian.{number_of, bytes_of}
use Rattle.block.specs.Wide.{whole}
use Rattle.block.specs.Words.{words, unwords}
use Rattle.block.proofs.Convert.{number_of-bytes_of, number_of-lt}
use Rattle.block.proofs.WordsBack.{unwords-number, unwords-bytes, length-unwords}
use Rattle.counter.specs.Counter.{last_four, ctr_jump, ctr_passes, gcm_jump, gcm_passes}
use Rattle.counter.proofs.Round.{zero_tells, no_bit}

-- Ctr's counter k blocks on, over the number of four words
pub ctr-jump-words : (x r : List ℕ) (k v m : ℕ) → v ≡ number_of (unwords x) → m ≡ (v + k) % 2 ^ 128 → r ≡ words (bytes_of 16 m)
    → unwords r ≡ ctr_jump (unwords x) k
unfolding ctr_jump
ctr-jump-words x r k v m n e f = unwords-number r m f ∙ rw (e, n)

pub ctr-words_pass : (x : List ℕ) (v high low : ℕ) → v ≡ number_of (unwords x) → whole high low ≡ (v + 1) % 2 ^ 128
    → eqb (bit_or high low) 0 ≡ ctr_passes (unwords x)
unfolding ctr_passes
ctr-words_pass x v high low n e =
    let h : number_of (unwords x) < 2 ^ 128 = rw (length-unwords x) at (number_of-lt (unwords x) (unwords-bytes x)) in
    no_bit high low ∙ zero_tells (2 ^ 128) (number_of (unwords x)) (whole high low) h (rw n at e)

-- the last of four words is the number that its bytes spell
last_word : (x : List ℕ) → get_or x 3 0 < 2 ^ 32 → number_of (bytes_of 4 (get_or x 3 0)) ≡ get_or x 3 0
last_word x h = number_of-bytes_of 4 (get_or x 3 0) ∙ mod-eq_of_lt h

pub last-four : (x : List ℕ) → get_or x 3 0 < 2 ^ 32 → last_four (unwords x) ≡ get_or x 3 0
unfolding unwords bytes_of
last-four x h = last_word x h

-- GCM's counter k blocks on, over the last of four words
pub gcm-jump-words : (x : List ℕ) (w k : ℕ) → get_or x 3 0 < 2 ^ 32 → w ≡ (get_or x 3 0 + k) % 2 ^ 32
    → unwords (get_or x 0 0 ∷ get_or x 1 0 ∷ get_or x 2 0 ∷ w ∷ []) ≡ gcm_jump (unwords x) k
unfolding gcm_jump unwords bytes_of
gcm-jump-words x w k h e = rw (e, last_word x h)

pub gcm-words_pass : (x : List ℕ) (w : ℕ) → get_or x 3 0 < 2 ^ 32 → w ≡ (get_or x 3 0 + 1) % 2 ^ 32 → eqb w 0 ≡ gcm_passes (unwords x)
unfolding gcm_passes unwords bytes_of
gcm-words_pass x w h e = zero_tells (2 ^ 32) (get_or x 3 0) w h e ∙ rw (last_word x h)
