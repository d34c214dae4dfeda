-- `pieces::flow::ciphered` meets its contract: the cipher of four words is that of the bytes that they spell.
use Rattle.pieces.proofs.Names.{rules}
use Rattle.pieces.proofs.Fitting.{ciphered-words}
use Rattle.pieces.proofs.flow.ciphered.Goals as goal

pub returns : goal.returns
returns c =
    rw (c.combine_block.ensures, c.encrypt.ensures, ciphered-words c.args.rk c.args.s (search rules) (λ i. search rules))
