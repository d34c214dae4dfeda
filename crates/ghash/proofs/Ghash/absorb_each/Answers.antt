-- A turn takes in the block that comes next (`absorbed_both`), and at the end these are all (`blocks-up_to`).
use Rattle.ghash.proofs.Names.{◌≡◌, arith, block_count, hash_from, length, rules, up_to}
use Rattle.ghash.proofs.Absorbing.{absorbed_both}
use Rattle.ghash.proofs.Blocks.{blocks-up_to, lent_all}
use Rattle.ghash.proofs.Sets.{up_to-next}
use Rattle.ghash.proofs.Ghash.absorb_each.Goals as goal

pub loop-i-init : goal.loop-i-init
unfolding up_to hash_from
loop-i-init c = search rules

pub loop-i-preserved : goal.loop-i-preserved
loop-i-preserved c = rw (← up_to-next) (absorbed_both _ _ _ _ _ c.loop-i.invariant (rw lent_all at c.absorb-state.ensures))

pub returns : goal.returns
returns c =
    let all : c.loop-i.i ≡ block_count (length c.args.bytes.now) = omega (arith, c.block_count-i-end.ensures) in
    rw (blocks-up_to, ← all) c.loop-i.invariant
