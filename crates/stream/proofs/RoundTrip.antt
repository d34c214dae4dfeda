-- The five kinds: as many bytes come out as go in, and the opener takes back what a kind did.
use Rattle.stream.proofs.Names.{Any, CfbDecrypt, CfbEncrypt, Ctr, Gctr, Keeps, Kind, List, Ofb, Undoes, ◌∙◌, ◌≡◌, ◌≤◌, arith, chain}
use Rattle.stream.proofs.Names.{chain_length, encrypt_block, length, length-encrypt_block, length-xors, opener, refl, state_after}
use Rattle.stream.proofs.Names.{stream_mode, sym, undo, xors, xors_cancel, ℕ}

-- a message of at most a block is covered by the cipher's output
covered : (rk s d : List ℕ) → length d ≤ 16 → length d ≤ length (encrypt_block rk s)
covered rk s d h = omega (arith, length-encrypt_block rk s)

-- a block gives a block
pub stream-block : (k : Kind) (rk s b : List ℕ) → length b ≡ 16 → length ((stream_mode k rk).block s b) ≡ 16
stream-block k rk s b n = length-xors b (encrypt_block rk s) (covered rk s b (omega arith)) ∙ n

stream_keeps : (k : Kind) (rk : List ℕ) → Keeps Any Any (stream_mode k rk)
stream_keeps k rk = record {
  front = λ d h n. tt;
  back = λ d h n. tt;
  next = λ s b hs hb n. tt;
  block = λ s b hs hb n. stream-block k rk s b n;
  rest = λ s d hs hd n. length-xors d (encrypt_block rk s) (covered rk s d (omega arith));
}

pub length-stream : (k : Kind) (rk s d : List ℕ) → length (chain (stream_mode k rk) s d) ≡ length d
length-stream k rk s d = chain_length Any Any (stream_mode k rk) (stream_keeps k rk) s d tt tt

-- with the block and what it became exchanged, the opener goes on in the same state
same-state : (k : Kind) (s e b c : List ℕ) → state_after (opener k) s e c b ≡ state_after k s e b c
same-state CfbEncrypt s e b c = refl
same-state CfbDecrypt s e b c = refl
same-state Ofb s e b c = refl
same-state Ctr s e b c = refl
same-state Gctr s e b c = refl

stream_undoes : (j k : Kind) (rk : List ℕ) → ((s e b c : List ℕ) → state_after j s e c b ≡ state_after k s e b c)
    → Undoes Any Any (stream_mode j rk) (stream_mode k rk)
stream_undoes j k rk same =
    let x : (s d : List ℕ) → length d ≤ 16 → xors (xors d (encrypt_block rk s)) (encrypt_block rk s) ≡ d =
    λ s d h. xors_cancel d (encrypt_block rk s) (covered rk s d h) in
    record {
      keeps = stream_keeps k rk;
      block = λ s b hs hb n. x s b (omega arith);
      next = λ s b hs hb n. rw (x s b (omega arith)) (same s (encrypt_block rk s) b (xors b (encrypt_block rk s)));
      rest = λ s d hs hd n. x s d (omega arith);
    }

-- all five round trips, for any round keys and any first state
pub stream_back : (k : Kind) (rk s d : List ℕ) → chain (stream_mode (opener k) rk) s (chain (stream_mode k rk) s d) ≡ d
stream_back k rk s d = undo Any Any _ _ (stream_undoes (opener k) k rk (same-state k)) s d tt tt

-- and the other way round
pub stream_forth : (k : Kind) (rk s d : List ℕ) → chain (stream_mode k rk) s (chain (stream_mode (opener k) rk) s d) ≡ d
stream_forth k rk s d = undo Any Any _ _ (stream_undoes k (opener k) rk (λ t e b c. sym (same-state k t e c b))) s d tt tt
