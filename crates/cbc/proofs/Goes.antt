-- Sealing goes on behind the full blocks: what they gave, and then, from the state that they end in, what the padded rest gives.
use Rattle.cbc.proofs.Names.{List, Reached, ◌%◌, ◌++◌, ◌∙◌, ◌≡◌, ◌≤◌, ap, arith, cbc_encrypt, chain, chain_cut, drop, drop_at}
use Rattle.cbc.proofs.Names.{end_cut, end_state, length, length-append, length-drop, length-padded, length-take-le, over, over-append}
use Rattle.cbc.proofs.Names.{padded, padding, refl, sym, take, take-append-drop, take-append-le, take_at, ℕ}
use Rattle.cbc.proofs.RoundTrip.{length-encrypt}

-- the full blocks of d gave the front of o, from the state s on
pub blocks-reached : (rk s s' d o o' : List ℕ) (at : ℕ) → at ≤ length d → at ≤ length o → at % 16 ≡ 0
    → s' ≡ end_state (cbc_encrypt rk) s (take at d) → o' ≡ over (chain (cbc_encrypt rk) s (take at d)) o
    → Reached (cbc_encrypt rk) s (padded d) o s' o' at
blocks-reached rk s s' d o o' at h r w fs fo =
    let m = cbc_encrypt rk in
    let a = take at d in
    let l : length a ≡ at = length-take-le at d h in
    let C = chain m s a in
    let n : length C ≡ at = length-encrypt rk s a (rw l w) ∙ l in
    let b = drop at (padded d) in
    let P = chain m s' b in
    let D = drop (length C) o in
    let e : padded d ≡ a ++ b =
    sym (take-append-drop at (padded d)) ∙ ap (λ (x : List ℕ). x ++ b) (take-append-le at d (padding (length d)) h) in
    let z : chain m s (padded d) ≡ C ++ P =
    ap (chain m s) e ∙ chain_cut m b (λ x. refl) s a (rw l w) ∙ ap (λ (x : List ℕ). C ++ chain m x b) (sym fs) in
    let x : take at o' ≡ C = rw fo (take_at C D at n) in
    let y : drop at o' ≡ D = rw fo (drop_at C D at n) in
    record {
      within = omega (arith, length-padded d);
      size = ap length fo ∙ length-append C D ∙ rw (length-drop, n) (omega arith);
      ends = sym (ap (end_state m s) e ∙ end_cut m b s a (rw l w) ∙ ap (λ (x : List ℕ). end_state m x b) (sym fs));
      leaves = rw (x, y, z) (sym (over-append C P o));
    }
