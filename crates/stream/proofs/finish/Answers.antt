-- `stream::finish` meets its contract: what is no full block is xored with the cipher of the state (`short`).
use Rattle.stream.proofs.Names.{kind_of, unwords}
use Rattle.stream.proofs.Walks.{short}
use Rattle.stream.proofs.finish.Goals as goal

pub returns-then-data-lt16 : goal.returns-then-data-lt16
returns-then-data-lt16 c =
    let a = c.args in
    let x = c.xor_rest-pad.ensures in
    short (kind_of a.kind) a.rk a.on (unwords a.iv) a.«data».now a.out.now _ _ c.if-data-lt16.true x.value x.out_after
