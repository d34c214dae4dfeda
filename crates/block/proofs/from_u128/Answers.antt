-- `block::from_u128` meets its contract: of a number in two halves the words are their quotients and remainders by 2^32 (`words-whole`).
use Rattle.block.proofs.Base.{rules}
use Rattle.block.proofs.WordsBack.{words-whole}
use Rattle.block.proofs.from_u128.Goals as goal

pub returns : goal.returns
returns c = search (rules, words-whole)
