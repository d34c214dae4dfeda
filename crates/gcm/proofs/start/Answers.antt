-- `gcm::start` meets its contract: H by itself or from the pads (`hash-key-front`), J0 by the length of the IV.
use Rattle.gcm.proofs.Names.{Fits, below_each, eq-eqb, first_counter, get_or, rules, w8, ℕ}
use Rattle.gcm.proofs.Short.{hash-key-front}
use Rattle.gcm.proofs.start.Goals as goal

pub returns-then-iv-eq12-clause-h_value : goal.returns-then-iv-eq12-clause-h_value
returns-then-iv-eq12-clause-h_value c =
    let a = c.args in
    let pads = c.pads_from-pads in
    let fits : (i : ℕ) → Fits w8 (get_or pads.result i 0) = λ i. search (rules, pads) in
    hash-key-front a.rk _ pads.result _ _ _ pads.ensures (below_each 256 pads.result (λ i. (fits i).fits)) c.split_block.ensures
    c.to_u128.ensures

pub returns-then-iv-eq12-clause-j0_value : goal.returns-then-iv-eq12-clause-j0_value
unfolding first_counter
returns-then-iv-eq12-clause-j0_value c = rw (eq-eqb _ _ c.if-iv-eq12.true) c.nonce_counter-j0.ensures
