use Rattle.sixteen.proofs.Names.{arith, xor-filled, xor_turn}
use Rattle.sixteen.proofs.xor_bytes.Goals as goal

pub loop-i-preserved : goal.loop-i-preserved
loop-i-preserved c = xor_turn _ _ _ _ _ c.loop-i.invariant (omega arith) (omega arith) (omega arith)

pub returns : goal.returns
returns c = let l = c.loop-i in xor-filled _ _ _ l.out l.i l.invariant (omega arith) (omega arith)
