-- `counter::gcm_jump` meets its contract: the last word counts alone (`gcm-jump-words`).
use Rattle.block.proofs.Base.{refl, rules, get_or, w32, Fits}
use Rattle.counter.proofs.Steps.{gcm-jump-words}
use Rattle.counter.proofs.gcm_jump.Goals as goal

pub returns : goal.returns
returns c =
    let h : Fits w32 (get_or c.args.a 3 0) = search rules in
    gcm-jump-words _ _ _ h.fits refl
