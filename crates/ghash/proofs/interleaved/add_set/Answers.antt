-- A turn adds the block that comes next.
use Rattle.ghash.proofs.Names.{◌≢◌, ◌∙◌, ◌⊕◌, ap₂, arith, below_each, whole-lt}
use Rattle.std.proofs.Common.{below_more}
use Rattle.ghash.proofs.Sets.{lent-number}
use Rattle.ghash.proofs.interleaved.add_set.Goals as goal

pub loop-k-preserved : goal.loop-k-preserved
loop-k-preserved c =
    let l = c.loop-k in
    let k = l.k in
    let z = c.bitxor.result in
    let bytes = below_each 256 c.args.bytes.now (λ i. (c.type_inv.bytes i).fits) in
    let block = c.to_u128-block.ensures ∙ lent-number c.args.bytes.now k _ bytes c.split_block.ensures in
    let sum = c.set.ensures.placed ∙ c.bitxor.ensures ∙ ap₂ ◌⊕◌ (c.get.ensures ∙ l.invariant.2 k (omega arith)) block in (
      below_more _ _ (λ j h. let n : j ≢ k = omega arith in c.set.ensures.others j n ∙ l.invariant.0 j h) sum,
      below_more _ _ (λ j h. let n : j ≢ k = omega arith in rw (c.set.ensures.others j n) (l.invariant.1 j h))
          (rw c.set.ensures.placed (whole-lt z.high z.low (omega (arith, c.bitxor.type_inv)) (omega (arith, c.bitxor.type_inv)))),
      λ j h. let n : j ≢ k = omega arith in c.set.ensures.others j n ∙ l.invariant.2 j (omega arith),
    )
