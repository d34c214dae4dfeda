-- The rows stand in lanes, and the rounds work on these.
use Rattle.sliced.proofs.Names.{arith}
use Rattle.sliced.proofs.Halves.{rows_in_lanes}
use Rattle.sliced.proofs.encrypt.Goals as goal

pub returns : goal.returns
returns c =
    let r = c.args.rows.now in
    λ m f h G.
    c.rounds_to_rows.ensures m f h (rows_in_lanes r.high r.low _ _ _ _ c.enter.ensures c.enter-2.ensures m f (omega arith) G)
