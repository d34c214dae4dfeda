-- A turn takes in the hash that comes next (`absorbed_both`).
use Rattle.ghash.proofs.Names.{hash_from, rules, up_to}
use Rattle.ghash.proofs.Absorbing.{absorbed_both}
use Rattle.ghash.proofs.Sets.{up_to-next}
use Rattle.ghash.proofs.interleaved.absorb_hashes.Goals as goal

pub loop-k-init : goal.loop-k-init
unfolding up_to hash_from
loop-k-init c = search rules

pub loop-k-preserved : goal.loop-k-preserved
loop-k-preserved c =
    rw (← up_to-next) (absorbed_both _ _ _ _ _ c.loop-k.invariant (rw c.get.ensures at c.step-state.ensures))
