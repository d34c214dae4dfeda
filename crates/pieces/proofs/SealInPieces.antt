-- Sealing in pieces, cut anywhere, is the single call's: what the pieces give is the ciphertext of their join, and the end its tag.
use Rattle.pieces.proofs.Names.{Encrypt, GcmCounting, J0, List, Ok, Seal, Sm4Cipher, [], ◌%◌, ◌++◌, ◌+◌, ◌≡◌, ◌≤◌, add-zero}
use Rattle.pieces.proofs.Names.{drop, ended, finished, flow_after, flow_text, gcm_next, gcm_round, gcm_starting, hash_key, hash_key-lt}
use Rattle.pieces.proofs.Names.{key_number, length, length-append, length-text, limit, over, seal_after, seal_end, seal_piece, seal_shut}
use Rattle.pieces.proofs.Names.{seal_start, sym, tag_of, telling, text_of, under, ℕ}
use Rattle.pieces.proofs.KeyStream.{flow_on, text_on, text-behind}
use Rattle.pieces.proofs.HashOn.{hash_on_of, hash-ends-of}
use Rattle.pieces.proofs.Passing.{writing_passes}
use Rattle.pieces.proofs.Stepping.{step}

-- a start that passes stands before the first byte
pub seal_started : (c : Sm4Cipher) (label iv : List ℕ) → gcm_starting c.answer c.retired Encrypt (length iv) (length label) ≡ Ok tt
    → seal_start c label iv ≡ step Seal (under (key_number c) (finished 0)) [] (seal_after (key_number c) c.engine c.rk label iv [])
unfolding seal_start
seal_started c label iv e = rw e

-- what a piece e gives behind d
module _ (rk j d e : List ℕ) where
  abbrev here : List ℕ
  here = flow_text GcmCounting rk (flow_after GcmCounting rk (gcm_next j) d) (length d % 16) e

  text_goes_on : text_of rk j (d ++ e) ≡ text_of rk j d ++ here
  unfolding text_of
  text_goes_on = text_on GcmCounting rk (gcm_next j) d e

  stretch_is : drop (length d) (text_of rk j (d ++ e)) ≡ here
  unfolding text_of
  stretch_is = text-behind GcmCounting rk (gcm_next j) d e

  -- what d gave stands before its stretch of the single call's ciphertext
  pub seal-joined : text_of rk j d ++ drop (length d) (text_of rk j (d ++ e)) ≡ text_of rk j (d ++ e)
  seal-joined = rw stretch_is (sym text_goes_on)

module _ (k mark : ℕ) (rk label iv d : List ℕ) (labelled : length label ≤ limit) where
  -- a piece e behind d gives its stretch of the single call's ciphertext, and the state after both
  pub seal_goes_on : (e o : List ℕ) → length d + length e ≤ limit → length e ≤ length o
      → seal_piece (seal_after k mark rk label iv d) e o
      ≡ step Seal (under k (finished (length e))) (over (drop (length d) (text_of rk (J0 rk iv) (d ++ e))) o)
      (seal_after k mark rk label iv (d ++ e))
  unfolding seal_piece seal_after
  seal_goes_on e o within room =
      let j = J0 rk iv in
      rw (writing_passes (length label) (length d) labelled (length e) (length e) (length o) within room)
      (rw (flow_on GcmCounting rk (gcm_next j) d e, length-append d e, stretch_is rk j d e, text_goes_on rk j d e)
      (rw (← hash_on_of (hash_key rk) label (text_of rk j d) (here rk j d e), length-text rk j d)))

  -- the end gives the single call's tag, and tells of the counter what it does; then every call is refused by 12
  pub seal-ended : (o : List ℕ) → length d ≤ limit → 16 ≤ length o
      → seal_end (seal_after k mark rk label iv d) o
      ≡ step Seal (under k (telling (gcm_round rk iv (length d)) (finished 16)))
      (over (tag_of rk (hash_key rk) (J0 rk iv) label (text_of rk (J0 rk iv) d)) o) (seal_shut k ended)
  unfolding seal_end seal_after tag_of
  seal-ended o within room =
      let text = text_of rk (J0 rk iv) d in
      let passes = writing_passes (length label) (length d) labelled 0 16 (length o) (rw add-zero within) room in
      rw (passes, ← hash-ends-of (hash_key rk) label text (hash_key-lt rk), length-text rk (J0 rk iv) d)
