-- The flow at a counter that is jumped to goes on as the whole does: the counters of Ctr do not depend on the text, so the one behind
-- `offset` zeros is the jump's.
use Rattle.ranges.proofs.Names.{AreBytes, CtrCounting, CtrKind, List, ◌%◌, ◌++◌, ◌/◌, ◌∙◌, ◌≡◌, arith, bytes_of-bytes, ctr_jump}
use Rattle.ranges.proofs.Names.{ctr_next, drop, end_state, flow_after, flow_at, flow_text, jump_on, length, length-append, length-bytes_of}
use Rattle.ranges.proofs.Names.{length-drop, length-replicate, length-stream, no_jump, replicate, stepped, stream_mode, stretch, suc}
use Rattle.ranges.proofs.Names.{sym, text-behind, zero, ℕ}

-- n steps of Ctr's walk are a jump
ctr-stepped : (rk : List ℕ) (n : ℕ) (s d : List ℕ) → length s ≡ 16 → AreBytes s → stepped (stream_mode CtrKind rk) n s d ≡ ctr_jump s n
unfolding stepped ctr_next
ctr-stepped rk zero s d l a = sym (no_jump s l a)
ctr-stepped rk (suc n) s d l a =
    ctr-stepped rk n (ctr_next s) (drop 16 d) (length-bytes_of 16 _) (bytes_of-bytes 16 _) ∙ jump_on s n

-- the flow there gives the stretch
pub jumped : (rk iv d : List ℕ) (offset : ℕ) → length iv ≡ 16 → AreBytes iv
    → flow_text CtrCounting rk (flow_at rk (ctr_jump iv (offset / 16))) (offset % 16) d ≡ stretch rk iv offset d
unfolding stretch flow_after end_state
jumped rk iv d offset l a =
    let z : List ℕ = replicate offset 0 in
    let n : length z ≡ offset = length-replicate offset 0 in
    sym (rw (ctr-stepped rk _ iv z l a, n) at (text-behind CtrCounting rk iv z d))

pub length-stretch : (rk iv : List ℕ) (offset : ℕ) (d : List ℕ) → length (stretch rk iv offset d) ≡ length d
unfolding stretch
length-stretch rk iv offset d =
    let z : List ℕ = replicate offset 0 in
    let n : length z ≡ offset = length-replicate offset 0 in
    rw (length-drop, length-stream CtrKind rk iv (z ++ d), length-append) (omega arith)
