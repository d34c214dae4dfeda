-- In each lane of a column the gates give the S-box's entry for what goes in, and eight stores put it at its place.
use Rattle.sliced.proofs.Names.{SboxLanes, ◌*◌, ◌+◌, ◌<◌, arith, column, rules}
use Rattle.sliced.proofs.Columns.{columns_first, columns_next, columns_last}
use Rattle.sliced.proofs.sub_byte.Goals as goal

pub loop-j-init : goal.loop-j-init
loop-j-init c = search (rules, columns_first)

pub loop-j-preserved : goal.loop-j-preserved
loop-j-preserved c =
    let l = c.loop-j in
    let a = c.args in
    let m = c.masks-m.result in
    let o = c.sbox.result in
    let g : SboxLanes (column a.x.now a.y.now a.z.now m (64 * a.b + l.j)) o = rw c.column_at.ensures at c.sbox.ensures in
    let hj : l.j < 8 = omega (arith, c.requires.bounds) in
    columns_next a.x.now a.y.now a.z.now m a.k a.n a.b l.j l.s _ o c.requires.bounds.0 hj c.masks-m.ensures g c.put_column.ensures.placed
    c.put_column.ensures.rest l.invariant

pub returns : goal.returns
returns c = search (rules, columns_last)
