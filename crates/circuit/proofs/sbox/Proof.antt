-- `circuit::sbox` meets its contract: the code's gates are the circuit's, by computing, and the circuit is the S-box in every
-- lane (`circuit_lanes`).
use Rattle.block.proofs.Base.{rules}
use Rattle.circuit.proofs.Gates.{circuit}
use Rattle.circuit.proofs.Circuit.{circuit_lanes}
use Rattle.circuit.proofs.sbox.Statement.{statement}
use Rattle.circuit.proofs.sbox.Tie as tie

returns : tie.Need-returns
unfolding circuit
returns c = circuit_lanes c.args.x

pub sbox_spec : {M : Type 1} → statement M
sbox_spec = tie.close (tie.spec (λ c. search rules) (λ c. search rules) (λ c. search rules) (λ c. search rules) (λ c. search rules)
    (λ c. search rules) (λ c. search rules) (λ c. search rules) returns)
