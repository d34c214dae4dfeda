-- The halves of a pair whose bytes went through the S-box are tau of its two words.
use Rattle.sixteen.proofs.Names.{Halves, Sbox, ◌*◌, ◌+◌, ◌<◌, ◌^◌, ◌∙◌, ◌≡◌, ap, arith, byte, get_or, tau, ℕ}
use Rattle.sixteen.proofs.Bytes.{low_half, high_half}
use Rattle.sixteen.proofs.rounds.sub_groups.Goals as goal

pub loop-g-preserved : goal.loop-g-preserved
loop-g-preserved c =
    let l = c.loop-g in
    let t = c.args.t.now in
    let g = l.g in
    let f : ℕ → ℕ = λ j. tau (get_or t j 0) in
    let halves : Halves f g c.sub_bytes-z.result =
    λ i h.
    let z = get_or c.sub_bytes-z.result i 0 in
    let k = 2 * (8 * g + i) in
    let p = c.paired.ensures i h in
    let b : (q : ℕ) → q < 8 → byte q z ≡ Sbox (byte q (get_or t (k + 1) 0 * 2 ^ 32 + get_or t k 0)) =
    λ q j. c.sub_bytes-z.ensures i q h j ∙ ap (λ (w : ℕ). Sbox (byte q w)) p.0 in
    let e : 16 * g + 2 * i ≡ k = omega arith in
    (rw (e, low_half z _ _ p.1 b), rw (e, high_half z _ _ p.1 b)) in
    λ j h. c.put_group.ensures f l.invariant halves j (omega arith)
