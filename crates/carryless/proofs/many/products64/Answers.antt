-- Three products of halves make up each product (`join_64`).
use Rattle.std.proofs.Common.{◌∙◌, ◌<◌, get_or, arith}
use Rattle.carryless.proofs.Joins.{join_64}
use Rattle.carryless.proofs.many.products64.Goals as goal

pub returns : goal.returns
returns c = λ g h.
    let l : g < c.loop-g.g = omega arith in
    let y = c.words_of_half.ensures in
    c.loop-g.invariant g l
    ∙ join_64 (get_or c.args.x.now g 0) c.args.y _ _ _ (c.products-p.ensures g h ∙ rw (c.halves.ensures.high g h, y))
    (c.products-q.ensures g h ∙ rw (c.halves.ensures.low g h, y)) (c.products-r.ensures g h ∙ rw (c.halves.ensures.both g h, y))
