-- Each return is the tests that led to it, and a piece is short enough for a plan of 64.
use Rattle.ranges.proofs.Names.{arith, eq-eqb, le-ltb, lt-ltb, ne_eqb, planned}
use Rattle.ranges.proofs.Sharing.{short_enough}
use Rattle.ranges.proofs.plan.make.Goals as goal
use Rattle.ranges.proofs.plan.make.Goals.{then-workers-eq0-via-then-workers-eq0, then-workers-eq0-via-else-workers-eq0+then-workers-gt-MOST}

pub returns-then-workers-eq0 : goal.returns-then-workers-eq0
unfolding planned
returns-then-workers-eq0 c =
    elim c.then-workers-eq0.branch [
      | then-workers-eq0-via-then-workers-eq0 w ↦ rw (eq-eqb _ _ w.if-workers-eq0.true)
      | then-workers-eq0-via-else-workers-eq0+then-workers-gt-MOST w ↦
          rw (ne_eqb _ _ w.if-workers-eq0.false, lt-ltb _ _ w.if-workers-gt-MOST.true)
    ]

pub returns-then-n-gt-LIMIT : goal.returns-then-n-gt-LIMIT
unfolding planned
returns-then-n-gt-LIMIT c =
    rw (ne_eqb _ _ c.if-workers-eq0.false, le-ltb _ _ c.if-workers-gt-MOST.false, lt-ltb _ _ c.if-n-gt-LIMIT.true)

pub plan_in-requires : goal.plan_in-requires
plan_in-requires c = omega (arith, short_enough c.args.n c.args.workers (omega arith) (omega arith), c.piece_size.ensures)

pub returns : goal.returns
unfolding planned
returns c =
    rw (
      ne_eqb _ _ c.if-workers-eq0.false,
      le-ltb _ _ c.if-workers-gt-MOST.false,
      le-ltb _ _ c.if-n-gt-LIMIT.false,
      c.plan_in.ensures,
      c.piece_size.ensures,
    )
