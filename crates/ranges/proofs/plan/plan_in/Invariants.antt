-- The places so far, and those still to come, are the plan; all that come are still zeros.
use Rattle.ranges.proofs.Names.{◌*◌, ◌-◌, ◌≡◌, drop, length, plan_in, replicate}
use Rattle.ranges.proofs.Laying.{laid}
use Rattle.ranges.proofs.plan.plan_in.Given as goal

abbrev pub invariant-loop-i : goal.invariant-loop-i
invariant-loop-i l =
    let p = l.plan in
    record {
      counted : p.count ≡ l.i;
      starts : length p.starts ≡ 64;
      lengths : length p.lengths ≡ 64;
      laid_so_far : laid l.n l.size l.i p.starts p.lengths (l.i * l.size) l.i ≡ plan_in l.n l.size;
      starts_left : drop l.i p.starts ≡ replicate (64 - l.i) 0;
      lengths_left : drop l.i p.lengths ≡ replicate (64 - l.i) 0;
    }
