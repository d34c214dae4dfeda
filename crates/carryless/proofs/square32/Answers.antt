-- The products of two different parts cancel (`squares`).
use Rattle.std.proofs.Common.{arith}
use Rattle.carryless.proofs.Words.{squares}
use Rattle.carryless.proofs.square32.Goals as goal

pub returns : goal.returns
returns c = rw (c.from-p.ensures, c.from-q.ensures, c.from-r.ensures, c.from-s.ensures) (squares c.args.x (omega arith))
