-- Two lists of bytes that differ inside exactly one 16-byte block.
use Rattle.std.specs.Prelude.{◌≡◌, ◌≢◌, List, ℕ, ◌+◌, ◌*◌, length, take, drop}

pub record OneBlock (a b : List ℕ) : Type 0 where
  pub apart : a ≢ b
  pub lengths : length a ≡ length b
  -- the block's number, counted from 0
  pub place : ℕ
  pub before : take (16 * place) a ≡ take (16 * place) b
  pub after : drop (16 * place + 16) a ≡ drop (16 * place + 16) b
