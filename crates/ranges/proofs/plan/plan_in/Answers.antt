-- A turn lays one place more; at n or past it all others stay zeros.
use Rattle.ranges.proofs.Names.{◌*◌, ◌+◌, ◌-◌, ◌∙◌, ◌≡◌, arith, length-set, lt-ltb, suc}
use Rattle.ranges.proofs.Laying.{laid_all, laid_more, laid_to, length_least, zeros_left}
use Rattle.ranges.proofs.plan.plan_in.Goals as goal

pub loop-i-preserved : goal.loop-i-preserved
loop-i-preserved c =
    let l = c.loop-i in
    let a = c.args in
    let inv = l.invariant in
    let at = l.i * a.size in
    let on : at + a.size ≡ (l.i + 1) * a.size = omega arith in
    let k : 64 - l.i ≡ suc (64 - (l.i + 1)) = omega arith in
    record {
      counted = omega (arith, inv.counted);
      starts = length-set l.plan.starts l.i _ ∙ inv.starts;
      lengths = length-set l.plan.lengths l.i _ ∙ inv.lengths;
      laid_so_far =
          rw (← on)
          (laid_more a.n a.size l.i l.plan.starts l.plan.lengths at l.i inv.starts inv.lengths (omega arith) 1 _ _
          (rw (lt-ltb at a.n c.if-at-n.false)) (rw (lt-ltb at a.n c.if-at-n.false)) (c.min.ensures ∙ length_least a.n a.size at)
          ∙ inv.laid_so_far);
      starts_left = zeros_left l.plan.starts l.i _ _ (rw k at inv.starts_left);
      lengths_left = zeros_left l.plan.lengths l.i _ _ (rw k at inv.lengths_left);
    }

pub returns-after-loop-i : goal.returns-after-loop-i
returns-after-loop-i c =
    let l = c.loop-i in
    let a = c.args in
    let inv = l.invariant in
    rw inv.counted (laid_all a.n a.size l.i l.plan.starts l.plan.lengths (l.i * a.size) l.i inv.starts inv.lengths (omega arith))
    ∙ inv.laid_so_far

pub returns-then-at-n : goal.returns-then-at-n
returns-then-at-n c =
    let l = c.loop-i in
    let a = c.args in
    let inv = l.invariant in
    laid_to a.n a.size l.plan (l.i * a.size) l.i c.if-at-n.true inv.counted inv.starts_left inv.lengths_left ∙ inv.laid_so_far
