-- A product of 64 bits by 64 has no more than 127, so that the highest bit is free (`top_half`).
use Rattle.field.proofs.Names.{◌∙◌, ap, times_xs, top_half}
use Rattle.field.proofs.many.reduced.Goals as goal

pub reduce-requires : goal.reduce-requires
reduce-requires c = rw c.joined128.ensures.1 (top_half _ _ c.requires)

pub returns : goal.returns
returns c = c.reduce.ensures ∙ ap (times_xs 127) c.joined128.ensures.0
