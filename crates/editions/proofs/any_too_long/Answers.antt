-- `any` over the lengths.
use Rattle.block.proofs.Base.{◌∙◌, ltb, rules}
use Rattle.cipher_mode.specs.Tables.{limit}
use Rattle.std.proofs.lemmas.Iterator.{YieldsList-from_slice}
use Rattle.std.proofs.lemmas.Iterator.Search.{any_from_yields_List}
use Rattle.editions.proofs.Turns.{any_long}
use Rattle.editions.proofs.any_too_long.Goals as goal

pub returns : goal.returns
returns c =
    any_from_yields_List (ltb limit) c.any.new.self _ _ c.any.ensures.ran (YieldsList-from_slice c.args.lengths.now cc)
    (λ x b q k. search rules)
    ∙ any_long c.args.lengths.now
