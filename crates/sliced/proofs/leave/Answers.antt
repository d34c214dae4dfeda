-- Two planes joined and transposed are the halves of blocks whose words are the lanes.
use Rattle.sliced.proofs.Names.{rules}
use Rattle.sliced.proofs.Halves.{halved, joined}
use Rattle.sliced.proofs.leave.Goals as goal

pub returns-clause-halved : goal.returns-clause-halved
returns-clause-halved c =
    let t = rw (c.copy_from_slice.ensures.after, c.copy_from_slice-2.ensures.after) at c.transpose.ensures.0 in
    halved _ _ _ _ t (joined c.args.high.now c.args.low.now _ _ (search rules) (search rules))
