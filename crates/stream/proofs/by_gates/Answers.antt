-- `stream::by_gates` meets its contract: what goes on from where the batches have come to ends the walk (`onward`).
use Rattle.stream.proofs.Names.{kind_of}
use Rattle.stream.proofs.Walks.{onward}
use Rattle.stream.proofs.by_gates.Goals as goal

pub returns : goal.returns
returns c =
    let a = c.args in
    onward (kind_of a.kind) a.rk c.run-at.ensures _ _ _ _ c.finish.ensures
