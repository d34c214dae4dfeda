-- A turn takes one round key off the front of four (`rounds-next`), and the four off the front of those that are left (`four_done`).
use Rattle.cipher.proofs.Names.{◌∙◌, arith}
use Rattle.cipher.proofs.Rounds.{rounds-next, four_done, fours_done}
use Rattle.cipher.proofs.round_map.encrypt.Goals as goal

pub loop-k-preserved : goal.loop-k-preserved
loop-k-preserved g c =
    let l = c.loop-k in rw (c.round-x.ensures, c.requires.map) (rounds-next c.in-Some.four.now l.x l.k-index (omega arith) ∙ l.invariant)

pub loop-four-preserved : goal.loop-four-preserved
loop-four-preserved g c =
    let l = c.loop-four in
    let s = c.in-Some.ensures.steps in
    let k = c.loop-k in
    let d = four_done _ _ _ _ k.x k.k-index s.1.0 (s.1.1 ∙ l.invariant.0) l.invariant.1 (omega arith) k.invariant in
    (rw s.0 l.invariant.0, d.0, rw d.1 l.invariant.2)

pub returns : goal.returns
returns g c =
    let l = c.loop-four in
    fours_done _ _ _ _ (omega (arith, l.invariant.0, c.in-None.ensures.steps)) l.invariant.1 l.invariant.2
