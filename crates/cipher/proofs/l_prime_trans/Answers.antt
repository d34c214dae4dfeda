-- The two rotations are the definition's.
use Rattle.cipher.proofs.Names.{L', arith}
use Rattle.cipher.proofs.Rotation.{rotation}
use Rattle.cipher.proofs.l_prime_trans.Goals as goal

pub returns : goal.returns
unfolding L'
returns c = grind (arith, rotation)
