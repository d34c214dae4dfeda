-- Three products make up each of three (`join_64`), and those the product (`join_128`).
use Rattle.block.proofs.Base.{◌∙◌, ◌≡◌, lit<}
use Rattle.block.specs.Wide.{value}
use Rattle.block.specs.Xor.{◌⊕◌}
use Rattle.carryless.specs.Carryless.{clmul}
use Rattle.carryless.specs.Product.{product_value}
use Rattle.carryless.proofs.Bounds.{top_of_halves}
use Rattle.carryless.proofs.Joins.{join_64, join_128}
use Rattle.carryless.proofs.clmul128.Goals as goal

pub returns : goal.returns
returns c =
    let x = c.args.x in
    let y = c.args.y.now.number in
    let z = c.word_products-z.ensures.products in
    let small = c.word_products-z.ensures.small in
    let p : product_value c.joined128.result ≡ clmul 128 (value x) (value y) =
    c.joined128.ensures.0
    ∙ join_128 _ _ _ x.high x.low y.high y.low small.0 small.2
    (c.joined.ensures ∙ join_64 x.high y.high _ _ _ (z 0 (lit< tt)) (z 1 (lit< tt)) (z 2 (lit< tt)))
    (c.joined-2.ensures ∙ join_64 x.low y.low _ _ _ (z 3 (lit< tt)) (z 4 (lit< tt)) (z 5 (lit< tt)))
    (c.joined-3.ensures
    ∙ join_64 (x.low ⊕ x.high) (y.low ⊕ y.high) _ _ _ (z 6 (lit< tt)) (z 7 (lit< tt)) (z 8 (lit< tt))) in
    record { product = p; top = top_of_halves _ _ _ _ _ _ _ small.1 small.2 p }
