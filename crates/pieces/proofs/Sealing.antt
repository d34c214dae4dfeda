-- No text of nothing.
use Rattle.pieces.proofs.Names.{Gctr, List, [], ◌≡◌, arith, chain-rest, gcm_next, stream_mode, text_of, ℕ}

pub no_text : (rk j : List ℕ) → text_of rk j [] ≡ []
unfolding text_of
no_text rk j = chain-rest (stream_mode Gctr rk) (gcm_next j) [] (omega arith)
