-- The low six rows are the patterns, the others the bits of the column.
use Rattle.sliced.proofs.Names.{arith, rules}
use Rattle.sliced.proofs.LaneNumbers.{low_rows, high_rows, numbered-first, numbered_next, numbered-last}
use Rattle.sliced.proofs.counters.numbers.Goals as goal

pub loop-p-init : goal.loop-p-init
loop-p-init c = search (rules, numbered-first)

pub loop-p-preserved : goal.loop-p-preserved
loop-p-preserved c =
    let l = c.loop-p in
    numbered_next l.p _ l.x (omega arith) (search rules) (low_rows l.p (omega arith)) l.invariant

pub loop-p-2-preserved : goal.loop-p-2-preserved
loop-p-2-preserved c =
    let l = c.loop-p-2 in
    numbered_next l.p _ l.x (omega arith) (search rules) (high_rows l.p _ (omega arith) c.spread.ensures) l.invariant

pub returns-clause-numbered : goal.returns-clause-numbered
returns-clause-numbered c = let l = c.loop-p-2 in numbered-last l.x l.p (omega arith) l.invariant

pub returns-clause-rest : goal.returns-clause-rest
returns-clause-rest c = λ q h. c.loop-p-2.invariant.1 q (omega arith)
