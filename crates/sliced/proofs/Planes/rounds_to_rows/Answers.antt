-- The rounds work in every lane, and the lanes go back into halves, the last word first.
use Rattle.sliced.proofs.Halves.{rows_encrypted}
use Rattle.sliced.proofs.Names.{rules}
use Rattle.sliced.proofs.Planes.rounds_to_rows.Goals as goal

pub returns : goal.returns
returns c =
    let B = c.leave-2.ensures in
    let A = c.leave.ensures in
    let p = c.args.self.now in
    rows_encrypted c.args.rk _ _ p.x0 p.x1 p.x2 p.x3 _ _ _ _ c.args.n c.requires A.halved B.halved A.small B.small c.all_rounds.ensures
    (search rules) (search rules)
