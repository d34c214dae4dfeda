use Rattle.sliced.proofs.Names.{◌+◌, ◌∙◌, ap, arith, bit, length-set, masks-next}
use Rattle.sliced.proofs.masks.Goals as goal

pub loop-i-preserved : goal.loop-i-preserved
loop-i-preserved g c =
    let l = c.loop-i in
    let n = l.invariant.0 in (
      length-set _ _ _ ∙ n,
      masks-next _ l.i _ _ (omega arith) (λ n h. c.spread.ensures n h ∙ ap (bit (c.args.from + l.i)) c.from.ensures) l.invariant.1,
    )
