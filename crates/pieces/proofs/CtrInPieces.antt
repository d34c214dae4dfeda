-- Ctr in pieces, cut anywhere, is the single call's: what the pieces give is what their join gives.
use Rattle.pieces.proofs.Names.{Ctr, CtrCounting, CtrKind, CtrMode, Direction, List, Ok, Sm4Cipher, [], ◌++◌, ◌+◌, ◌≡◌, ◌≤◌}
use Rattle.pieces.proofs.Names.{add-zero, arith, blocks_of, chain, ctr_after, ctr_came_round, ctr_end, ctr_piece, ctr_shut, ctr_start, drop}
use Rattle.pieces.proofs.Names.{ended, finished, key_and_iv, key_number, length, length-append, limit, over, stream_mode, telling, under}
use Rattle.pieces.proofs.Names.{ℕ}
use Rattle.pieces.proofs.KeyStream.{flow_on, text-behind, text-joined}
use Rattle.pieces.proofs.Passing.{running_passes, writing_passes}
use Rattle.pieces.proofs.Stepping.{step}

-- a start that passes stands before the first byte
pub ctr_started : (dir : Direction) (c : Sm4Cipher) (iv : List ℕ) → key_and_iv c.answer c.retired dir CtrMode (length iv) ≡ Ok tt
    → ctr_start dir c iv ≡ step Ctr (under (key_number c) (finished 0)) [] (ctr_after (key_number c) c.engine c.rk iv [])
unfolding ctr_start
ctr_started dir c iv e = rw e

module _ (rk iv d : List ℕ) where
  -- what the single call gives of d and then e, from e's first byte on
  abbrev pub ctr_stretch : List ℕ → List ℕ
  ctr_stretch e = drop (length d) (chain (stream_mode CtrKind rk) iv (d ++ e))

  -- what d gave stands before it
  pub ctr-joined : (e : List ℕ) → chain (stream_mode CtrKind rk) iv d ++ ctr_stretch e ≡ chain (stream_mode CtrKind rk) iv (d ++ e)
  ctr-joined e = text-joined CtrCounting rk iv d e

module _ (k mark : ℕ) (rk iv d : List ℕ) where
  -- a piece e behind d gives its stretch of the single call on both, and the state after both
  pub ctr_goes_on : (e o : List ℕ) → length d + length e ≤ limit → length e ≤ length o
      → ctr_piece (ctr_after k mark rk iv d) e o
      ≡ step Ctr (under k (finished (length e))) (over (ctr_stretch rk iv d e) o) (ctr_after k mark rk iv (d ++ e))
  unfolding ctr_piece ctr_after
  ctr_goes_on e o within room =
      rw (writing_passes 0 (length d) (omega arith) (length e) (length e) (length o) within room, flow_on CtrCounting rk iv d e)
      (rw (length-append d e, text-behind CtrCounting rk iv d e))

  -- the end is done, and tells of the counter what the single call does; then every call is refused by 12
  pub ctr-ended : length d ≤ limit
      → ctr_end (ctr_after k mark rk iv d)
      ≡ step Ctr (under k (telling (ctr_came_round iv (blocks_of (length d))) (finished 0))) [] (ctr_shut k ended)
  unfolding ctr_end ctr_after
  ctr-ended within = rw (running_passes 0 (length d) (omega arith) 0 (rw add-zero within))
