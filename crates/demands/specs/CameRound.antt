-- What an answer says of a counter, as a property of any report: the formula of W8 where it is done, and no where it is refused.
use Rattle.demands.specs.Names as N
use Rattle.std.specs.Prelude.{◌&&◌, ◌++◌, ◌∷◌, ◌≢◌, ◌≡◌, ◌-◌}
use N.{Bool, cond, false, List, [], ℕ, eqb, length, blocks_of, ctr_came_round, gcm_came_round, last_four, Head, telling, chain, stream_mode}
use N.{Gctr, J0, hash_key, tag_of, CipherMode, Cbc, Cfb, Ctr, Gcm, Ofb, Direction, Decrypt, Encrypt}
use Rattle.demands.specs.Call.{Call, result}

-- the formula by mode, over n bytes of data: of a sealed message the last sixteen are its tag, and the other modes have no counter
abbrev pub round_of : CipherMode → Direction → List ℕ → List ℕ → ℕ → Bool
round_of Cfb dir rk iv n = false
round_of Ofb dir rk iv n = false
round_of Ctr dir rk iv n = ctr_came_round iv (blocks_of n)
round_of Cbc dir rk iv n = false
round_of Gcm Encrypt rk iv n = gcm_came_round (last_four (J0 rk iv)) (blocks_of n)
round_of Gcm Decrypt rk iv n = gcm_came_round (last_four (J0 rk iv)) (blocks_of (n - 16))

-- the report says b where it is done, and no where it is refused
pub record Says (b : Bool) (h : Head) : Type 0 where
  pub done : h.number ≡ 0 → h.came_round ≡ cond b 1 0
  pub refused : h.number ≢ 0 → h.came_round ≡ 0

-- the report h where it says b if it is done
abbrev pub telling_done : Bool → Head → Head
telling_done b h = telling (eqb h.number 0 && b) h

-- What a 12-byte IV is in Gcm, as a property of any call that seals under the round keys rk: SP 800-38D's J0 is the IV and
-- then 00000001, and the text's first counter the IV and then 00000002. The IV is neither padded nor hashed.

-- an IV, and then a number below 256 in four bytes
abbrev pub followed_by : ℕ → List ℕ → List ℕ
followed_by n iv = iv ++ (0 ∷ 0 ∷ 0 ∷ n ∷ [])

-- the text under the counters from 00000002 on
abbrev pub text_from_two : List ℕ → List ℕ → List ℕ → List ℕ
text_from_two rk iv d = chain (stream_mode Gctr rk) (followed_by 2 iv) d

-- whenever the call answers 0 under such an IV, its result is that text and then the tag under 00000001
abbrev pub CountsFromTwo : List ℕ → Call → Type 0
CountsFromTwo rk sealing =
    (label d iv o : List ℕ) → length iv ≡ 12 → (sealing label d iv o).head.number ≡ 0
    → result (sealing label d iv o) ≡ text_from_two rk iv d ++ tag_of rk (hash_key rk) (followed_by 1 iv) label (text_from_two rk iv d)
