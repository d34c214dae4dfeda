-- `padding::unpad` meets its contract: the range of the last byte tells whether it names a padding, and `all_padding` whether all of the
-- padding holds it.
use Rattle.block.proofs.Base.{◌∙◌, refl, sym, false, true, arith}
use Rattle.padding.proofs.Unpadded.{names_some, zero_names_none, high_names_none, block-unpadded}
use Rattle.padding.proofs.unpad.Goals as goal

pub returns-in-1-to-16 : goal.returns-in-1-to-16
returns-in-1-to-16 c =
    rw c.from-in-1-to-16.ensures
    (block-unpadded c.args.last true true (omega arith) (names_some _ (omega arith) (omega arith))
    (rw c.from.ensures at (sym c.all_padding.ensures) ∙ c.if-all_padding.true))

pub returns-in-1-to-16-2 : goal.returns-in-1-to-16-2
returns-in-1-to-16-2 c =
    block-unpadded c.args.last true false (omega arith) (names_some _ (omega arith) (omega arith))
    (rw c.from.ensures at (sym c.all_padding.ensures) ∙ c.if-all_padding.false)

pub returns-in_default : goal.returns-in_default
returns-in_default c = block-unpadded c.args.last false _ (omega arith) (zero_names_none _ (omega arith)) refl

pub returns-in_default-2 : goal.returns-in_default-2
returns-in_default-2 c = block-unpadded c.args.last false _ (omega arith) (high_names_none _ (omega arith)) refl
