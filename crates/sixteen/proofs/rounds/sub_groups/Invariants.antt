-- The groups so far are there.
use Rattle.sixteen.proofs.Names.{Each, ◌*◌, get_or, tau}
use Rattle.sixteen.proofs.rounds.sub_groups.Given as goal

abbrev pub invariant-loop-g : goal.invariant-loop-g
invariant-loop-g l = Each (λ j. tau (get_or l.t j 0)) (16 * l.g) l.s
