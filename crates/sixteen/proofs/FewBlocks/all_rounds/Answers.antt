use Rattle.sixteen.proofs.Names.{◌+◌, ◌∙◌, ◌≡◌, ap, arith, block, drop, length, rounds, rounds-done, rounds-next, rules}
use Rattle.sixteen.proofs.FewBlocks.all_rounds.Goals as goal

pub loop-i-preserved : goal.loop-i-preserved
loop-i-preserved c =
    let l = c.loop-i in
    let rk = c.args.rk in
    let n : length rk ≡ 32 = search rules in
    λ j h. ap (rounds (drop (l.i + 1) rk)) (c.round.ensures j h) ∙ rounds-next rk (block l.self.x l.i j) l.i (omega arith) ∙ l.invariant j h

pub returns : goal.returns
returns c =
    let l = c.loop-i in
    let a = c.args in
    let rk = a.rk in
    let n : length rk ≡ 32 = search rules in
    let e : l.i ≡ 32 = omega arith in
    λ j h. rounds-done rk (block l.self.x 0 j) (block a.self.now.x 0 j) 32 (omega arith) (rw e at (l.invariant j h))
