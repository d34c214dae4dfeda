-- Three products of halves make up each product without carry (`join_128`), and x^127 times that is the product (`reduced-product`).
use Rattle.field.proofs.Names.{◌∙◌, ◌<◌, ◌^◌, arith, clmul-lt, join_128, rules}
use Rattle.field.proofs.Reduction.{reduced-product}
use Rattle.field.proofs.many.multiply.Goals as goal

pub reduced-requires : goal.reduced-requires
reduced-requires c =
    rw (c.get.ensures, c.products64.ensures c.loop-g.g c.loop-g-test.true) (clmul-lt 63 64 _ _ (search rules))

pub returns : goal.returns
returns c = λ g h.
    let l : g < c.loop-g.g = omega arith in
    let small : c.args.y.now.number.low < 2 ^ 64 = search rules in
    let both = c.products64-3.ensures g h ∙ rw (c.sums-s.ensures.sums g h) in
    reduced-product _ _ _ _ (c.loop-g.invariant g l)
    (join_128 _ _ _ _ _ _ _ (c.sums-s.ensures.small g h) small (c.products64.ensures g h) (c.products64-2.ensures g h) both)
