-- `pieces::hashing::number_of` meets its contract: the words of sixteen bytes spell the number that these spell.
use Rattle.pieces.proofs.Names.{rules}
use Rattle.pieces.proofs.Fitting.{spelt}
use Rattle.pieces.proofs.hashing.number_of.Goals as goal

pub returns : goal.returns
returns c = rw (c.to_u128.ensures, c.split_block.ensures, spelt c.args.b (search rules, λ i. search rules))
