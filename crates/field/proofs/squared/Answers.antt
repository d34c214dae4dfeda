-- x^127 times the product without carry is the product (`reduced-product`).
use Rattle.field.proofs.Names.{rules}
use Rattle.field.proofs.Reduction.{reduced-product}
use Rattle.field.proofs.squared.Goals as goal

pub returns : goal.returns
returns c = search (rules, reduced-product)
