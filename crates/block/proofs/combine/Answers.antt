-- `block::combine` meets its contract. What `from_be_bytes` adds up is the number that the four bytes spell (`four_spell`).
use Rattle.block.proofs.Base.{◌∙◌, rules}
use Rattle.block.proofs.WordsBack.{four_spell}
use Rattle.block.proofs.combine.Goals as goal

pub returns : goal.returns
returns c = c.from_be_bytes.ensures ∙ four_spell _ (search rules)
