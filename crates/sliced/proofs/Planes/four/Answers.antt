-- Each round takes the planes that the rounds before it left.
use Rattle.sliced.proofs.Names.{◌≡◌, four_entries, length, rules}
use Rattle.sliced.proofs.Mixing.{four-done}
use Rattle.sliced.proofs.Planes.four.Goals as goal

pub returns : goal.returns
returns c =
    let k = c.args.k in
    let n : length k ≡ 4 = search rules in
    λ e h g.
    rw (← four_entries k n)
    (four-done _ _ _ _ _ _ _ _ _ _ _ _ e (c.round.ensures e h g) (c.round-2.ensures e h g) (c.round-3.ensures e h g) (c.round-4.ensures e h g))
