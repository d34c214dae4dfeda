-- A piece written behind what came before it gives what the single call gives of both.
use Rattle.ranges.proofs.Names.{CtrKind, List, ◌++◌, ◌+◌, ◌∙◌, ◌≡◌, ◌≤◌, chain, ctr-joined, drop, length, length-stream}
use Rattle.ranges.proofs.Names.{length-take-le, over, over-behind, returned, stream_mode, stretch, tailed, take, take-add, ℕ}
use Rattle.ranges.proofs.KeyStream.{stretch-of-whole}

-- the text d up to `at`, and then the stretch of n bytes there
pub joined : (rk iv d o o₁ t : List ℕ) (at n : ℕ) → at ≤ length d
    → o₁ ≡ over (chain (stream_mode CtrKind rk) iv (take at d)) o → t ≡ over (stretch rk iv at (take n (drop at d))) (tailed at o₁)
    → returned at o₁ t ≡ over (chain (stream_mode CtrKind rk) iv (take (at + n) d)) o
joined rk iv d o o₁ t at n h e f =
    let m = stream_mode CtrKind rk in
    let before = take at d in
    let here = take n (drop at d) in
    let k : length before ≡ at = length-take-le at d h in
    let whole : chain m iv before ++ stretch rk iv at here ≡ chain m iv (take (at + n) d) =
    rw (k, ← take-add at n d) at (rw (stretch-of-whole rk iv before here) at (ctr-joined rk iv before here)) in
    rw (← whole) (over-behind (chain m iv before) (stretch rk iv at here) o o₁ t at (length-stream CtrKind rk iv before ∙ k) e f)
