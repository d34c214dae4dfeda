-- Where a walk over a whole message ends.
use Rattle.std.specs.Prelude.{◌≡◌, Bool, true, List, ℕ}
use Rattle.block.specs.Over.{over}
use Rattle.cipher.specs.Sm4.{encrypt_block}
use Rattle.stream.specs.Stream.{stream_mode}
use Rattle.stream.specs.declared.Kind.{Kind}
use Rattle.walk.specs.Walk.{chain, end_state}

-- from s over the message d, into the output o: the walk ends in the state r with the output t, and, where the message goes on, with the
-- cipher q of that state
pub record Ends (k : Kind) (rk : List ℕ) (on : Bool) (s d o r q t : List ℕ) : Type 0 where
  pub state_value : r ≡ end_state (stream_mode k rk) s d
  pub pad_value : on ≡ true → q ≡ encrypt_block rk (end_state (stream_mode k rk) s d)
  pub out_after : t ≡ over (chain (stream_mode k rk) s d) o
