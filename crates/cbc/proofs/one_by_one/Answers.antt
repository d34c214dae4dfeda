-- `cbc::one_by_one` meets its contract. A turn of the loop goes one block on (`reached-next`); at the end no full block is left, and a rest
-- gives nothing.
use Rattle.cbc.proofs.Names.{◌*◌, ◌+◌, ◌≡◌, arith, length-unwords, reached-next, walk-ended}
use Rattle.cbc.proofs.one_by_one.Goals as goal

pub loop-i-preserved : goal.loop-i-preserved
loop-i-preserved g c =
    let l = c.loop-i in
    let x = c.step-next.ensures in
    let on : 16 * l.i + 16 ≡ 16 * (l.i + 1) = omega arith in
    rw on at (reached-next _ _ _ _ _ _ _ l.invariant _ _ (omega arith) (omega arith)
    (g.met.W.Way.full _ _ _ (length-unwords l.s)) x.result_value x.out_after)

pub returns : goal.returns
returns g c =
    let r = walk-ended c.loop-i.invariant (omega arith) (g.met.W.Way.no_rest _ _ _) in
    record { result_value = r.0; out_after = r.1 }
