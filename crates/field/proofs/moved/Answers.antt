-- A shift to the left leaves the lowest bit free for the one that comes in (`or-sum`).
use Rattle.field.proofs.Names.{◌%◌, ◌*◌, ◌/◌, ◌^◌, arith, or-sum}
use Rattle.field.proofs.moved.Goals as goal

pub returns : goal.returns
returns c = or-sum 1 (c.args.a * 2 % 2 ^ 64) (c.args.b / 2 ^ 63) (omega arith) (omega arith)
