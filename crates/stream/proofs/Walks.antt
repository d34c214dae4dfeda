-- The walk of a kind goes on from where it had come to: by blocks, by a walk over what is left, or by a rest that is no full block.
use Rattle.stream.proofs.Names.{Bool, Kind, List, Reached, ◌*◌, ◌+◌, ◌<◌, ◌∙◌, ◌≡◌, ◌≤◌, ap, arith, block_at, cat, chain-rest, drop}
use Rattle.stream.proofs.Names.{encrypt_block, end_rest, gives, last-state, length, length-block_at, length-drop, over}
use Rattle.stream.proofs.Names.{reached-end, reached_on, reached-over, rest-written, returned, stepped, stream_mode, sym, tailed, true}
use Rattle.stream.proofs.Names.{xors, ℕ}
use Rattle.stream.specs.Ends.{Ends}
use Rattle.stream.proofs.RoundTrip.{stream-block}

-- a message that is no full block was xored with the cipher of the state
pub short : (k : Kind) (rk : List ℕ) (on : Bool) (s d o q t : List ℕ) → length d < 16 → (on ≡ true → q ≡ encrypt_block rk s)
    → t ≡ over (xors d (encrypt_block rk s)) o → Ends k rk on s d o s q t
short k rk on s d o q t h e f =
    let m = stream_mode k rk in
    let last = sym (end_rest m s d h) in
    record {
      state_value = last;
      pad_value = λ g. e g ∙ ap (encrypt_block rk) last;
      out_after = f ∙ ap (λ (x : List ℕ). over x o) (sym (chain-rest m s d h));
    }

module _ (k : Kind) (rk : List ℕ) {s d o r p : List ℕ} {at : ℕ} (R : Reached (stream_mode k rk) s d o r p at) where
  -- n blocks more were written
  pub blocks_on : (n : ℕ) (r' t : List ℕ) → at + 16 * n ≤ length d → at + 16 * n ≤ length p
      → r' ≡ stepped (stream_mode k rk) n r (drop at d)
      → t ≡ over (cat n (gives (stream_mode k rk) r (drop at d))) (tailed at p)
      → Reached (stream_mode k rk) s d o r' (returned at p t) (at + 16 * n)
  blocks_on n r' t hd hp =
      let m = stream_mode k rk in
      let room : 16 * n ≤ length (drop at d) = rw length-drop (omega arith) in
      reached_on m s d o r p at R n r' t hd hp
      (λ i h. stream-block k rk (stepped m i r (drop at d)) (block_at (drop at d) i) (length-block_at (drop at d) i n h room))

  -- a walk over all that is left has ended
  pub onward : (on : Bool) (r' q t : List ℕ) → Ends k rk on r (tailed at d) (tailed at p) r' q t → Ends k rk on s d o r' q (returned at p t)
  onward on r' q t e =
      let m = stream_mode k rk in
      let last = reached-end m s d o r p at R in
      record {
        state_value = e.state_value ∙ last;
        pad_value = λ h. e.pad_value h ∙ ap (encrypt_block rk) last;
        out_after = reached-over m s d o r p at R t e.out_after;
      }

  -- what is left is no full block, and was xored with the cipher of the state
  pub ended : (on : Bool) (q t : List ℕ) → length d < at + 16 → (on ≡ true → q ≡ encrypt_block rk r)
      → t ≡ over (xors (tailed at d) (encrypt_block rk r)) (tailed at p) → Ends k rk on s d o r q (returned at p t)
  ended on q t h e f =
      let m = stream_mode k rk in
      let last = last-state m r d at h ∙ R.ends in
      record {
        state_value = last;
        pad_value = λ g. e g ∙ ap (encrypt_block rk) last;
        out_after = rest-written m r d p t at h f ∙ R.leaves;
      }
