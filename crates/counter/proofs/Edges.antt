-- The formula at its edges, computed: Ctr from all ones on.
use Rattle.block.proofs.Base.{◌≡◌, refl, false, true, replicate}
use Rattle.block.specs.BigEndian.{number_of}
use Rattle.counter.specs.CameRound.{ctr_came_round}

pub ctr-one-block : ctr_came_round (replicate 16 255) 1 ≡ false
unfolding ctr_came_round number_of
ctr-one-block = refl

pub ctr_two_blocks : ctr_came_round (replicate 16 255) 2 ≡ true
unfolding ctr_came_round number_of
ctr_two_blocks = refl
