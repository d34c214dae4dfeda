use Rattle.sliced.proofs.Names.{◌*◌, ◌+◌, ◌<◌, ◌∙◌, arith, get_or-set_other, get_or-set_same, one_more, length, rules}
use Rattle.sliced.proofs.put_column.Goals as goal

pub loop-i-preserved : goal.loop-i-preserved
loop-i-preserved c =
    let l = c.loop-i in
    let p = c.args.p in
    let at = p + 8 * l.i in
    let n : at < length l.s = search rules in
    record {
      placed = one_more _ l.i (get_or-set_same l.s at _ 0 n)
          (λ k h. get_or-set_other l.s at (p + 8 * k) _ 0 (λ e. omega arith) ∙ l.invariant.placed k h);
      rest = λ q h. get_or-set_other l.s at q _ 0 (h l.i (omega arith)) ∙ l.invariant.rest q (λ k g. h k (omega arith));
    }

pub returns-clause-placed : goal.returns-clause-placed
returns-clause-placed c = λ i h. c.loop-i.invariant.placed i (omega arith)

pub returns-clause-rest : goal.returns-clause-rest
returns-clause-rest c = λ q h. c.loop-i.invariant.rest q (λ k g. h k (omega arith))
