-- Once the sets are taken in, the hashes join to the hash of their blocks, and the rest is taken in block by block (`absorbed_cut`).
use Rattle.ghash.proofs.Names.{◌∙◌, ap, ap₂, arith, value, whole, whole-lt}
use Rattle.ghash.proofs.Absorbing.{absorbed_cut, hash-of}
use Rattle.ghash.proofs.Blocks.{get_or-zeros}
use Rattle.ghash.proofs.Sets.{starts_first}
use Rattle.ghash.proofs.interleaved.absorb_lanes.Goals as goal

pub returns : goal.returns
returns c =
    let g = c.args.g in
    let element = whole-lt g.h.high g.h.low (omega (arith, c.well_formed.0)) (omega (arith, c.well_formed.0)) in
    let sets = c.absorb_sets-taken.ensures in
    absorbed_cut g _ _ _ _ sets.there
    (record {
      key = c.absorb_hashes.ensures.key ∙ c.new.ensures.0;
      hash =
          hash-of _ _ _ _ c.new.ensures c.absorb_hashes.ensures
          ∙ sets.hashed (value g.h) (value g.y) element (ap value c.parts-p.ensures.1 ∙ c.lane_power.ensures) (starts_first _ _ _ c.set.ensures.placed
          (λ k n. c.set.ensures.others k n ∙ ap₂ whole (get_or-zeros 16 k) (get_or-zeros 16 k)));
    })
    c.absorb_each.ensures
