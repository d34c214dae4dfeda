-- The words are the squares of the number's four words of 32 bits (`square_words`).
use Rattle.block.proofs.Base.{arith}
use Rattle.block.specs.Wide.{value}
use Rattle.carryless.proofs.Bounds.{top_of_halves}
use Rattle.carryless.proofs.Joins.{square_words}
use Rattle.carryless.proofs.square128.Goals as goal

pub returns : goal.returns
returns c =
    let x = c.args.x in
    let high = c.words_of_half.ensures in
    let low = c.words_of_half-2.ensures in
    let p =
    square_words x.high x.low _ _ _ _ (omega arith) (omega arith) (rw high at c.square32.ensures) (rw high at c.square32-2.ensures)
    (rw low at c.square32-3.ensures) (rw low at c.square32-4.ensures) in
    record { product = p; top = top_of_halves _ _ _ _ (value x) x.high x.low (omega arith) (omega arith) p }
