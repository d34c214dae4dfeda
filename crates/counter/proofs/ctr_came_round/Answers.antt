-- `counter::ctr_came_round` meets its contract. Without a block there is no step; else the blocks but one are more than what
-- is left up to all ones exactly where they and the IV's number reach 2^128, which takes a high half of all ones.
use Rattle.block.proofs.Base.{◌∙◌, arith, rules, w64, Fits}
use Rattle.counter.proofs.Formula.{ctr-none, ctr_full, ctr-short, rounded_up}
use Rattle.counter.proofs.ctr_came_round.Goals as goal

pub returns-then-b-eq0 : goal.returns-then-b-eq0
returns-then-b-eq0 c = rw (← (c.div_ceil-b.ensures ∙ rounded_up c.args.n)) (ctr-none _ _ c.if-b-eq0.true)

pub returns-then-first : goal.returns-then-first
returns-then-first c =
    let first = c.to_u128-first.result in
    rw (← (c.div_ceil-b.ensures ∙ rounded_up c.args.n))
    (ctr_full _ _ first.high first.low c.if-b-eq0.false c.to_u128-first.ensures (omega arith) c.if-first.true)

pub returns-else-first : goal.returns-else-first
returns-else-first c =
    let first = c.to_u128-first.result in
    let high : Fits w64 first.high = search rules in
    let low : Fits w64 first.low = search rules in
    rw (← (c.div_ceil-b.ensures ∙ rounded_up c.args.n))
    (ctr-short _ _ _ _ c.if-b-eq0.false c.to_u128-first.ensures low.fits c.if-first.false high.fits (omega arith))
