-- `gcm::first_counter` meets its contract: the test that it makes is the definition's, and each function gives its side.
use Rattle.gcm.proofs.Names.{eq-eqb, first_counter, ne_eqb}
use Rattle.gcm.proofs.first_counter.Goals as goal

pub returns-then-iv-eq12 : goal.returns-then-iv-eq12
unfolding first_counter
returns-then-iv-eq12 c = rw (eq-eqb _ _ c.if-iv-eq12.true) c.nonce_counter.ensures

pub returns-else-iv-eq12 : goal.returns-else-iv-eq12
unfolding first_counter
returns-else-iv-eq12 c = rw (ne_eqb _ _ c.if-iv-eq12.false) c.hashed_counter.ensures
