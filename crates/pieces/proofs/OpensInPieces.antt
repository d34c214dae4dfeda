-- Opening in pieces, cut anywhere, answers as the single call does: yes exactly where the joined pieces open with the tag.
use Rattle.pieces.proofs.Names.{Decrypt, Head, J0, List, Opens, Ok, Sm4Cipher, [], ◌++◌, ◌+◌, ◌≡◌, ◌≤◌, add-zero, cond, ended}
use Rattle.pieces.proofs.Names.{finished, gcm_round, gcm_starting, hash_key, hash_key-lt, key_number, length, length-append, limit}
use Rattle.pieces.proofs.Names.{opens_after, opens_end, opens_piece, opens_shut, opens_start, opens_under, parts-tag, parts-text, refusal}
use Rattle.pieces.proofs.Names.{tag_of, telling, under, ℕ}
use Rattle.pieces.proofs.HashOn.{hash_on_of, hash-ends-of}
use Rattle.pieces.proofs.Passing.{running_passes, tagged_passes}
use Rattle.pieces.proofs.Stepping.{step}

-- a start that passes stands before the first byte
pub opens_started : (c : Sm4Cipher) (label iv : List ℕ) → gcm_starting c.answer c.retired Decrypt (length iv) (length label) ≡ Ok tt
    → opens_start c label iv ≡ step Opens (under (key_number c) (finished 0)) [] (opens_after (key_number c) c.rk label iv [])
unfolding opens_start
opens_started c label iv e = rw e

module _ (k : ℕ) (rk label iv c : List ℕ) (labelled : length label ≤ limit) where
  -- the report of an end that opens
  abbrev pub opened : Head
  opened = telling (gcm_round rk iv (length c)) (finished 0)

  -- a piece e behind c gives the state after both
  pub opens_goes_on : (e : List ℕ) → length c + length e ≤ limit
      → opens_piece (opens_after k rk label iv c) e ≡ step Opens (under k (finished 0)) [] (opens_after k rk label iv (c ++ e))
  unfolding opens_piece opens_after
  opens_goes_on e within =
      rw (running_passes (length label) (length c) labelled (length e) within, hash_on_of (hash_key rk) label c e, length-append c e)

  -- the end answers 0 where the single call opens c with the tag, and tells of the counter what it does; otherwise 4
  pub opens-ended : (tag : List ℕ) → length c ≤ limit → length tag ≡ 16
      → opens_end (opens_after k rk label iv c) tag
      ≡ step Opens (under k (cond (opens_under rk (hash_key rk) (J0 rk iv) label (c ++ tag)) opened (refusal 4))) [] (opens_shut k ended)
  unfolding opens_end opens_after opens_under tag_of
  opens-ended tag within n =
      let passes = tagged_passes (length label) (length c) labelled (length tag) (rw add-zero within) n in
      rw (passes, hash-ends-of (hash_key rk) label c (hash_key-lt rk), parts-tag c tag n, parts-text c tag n)
