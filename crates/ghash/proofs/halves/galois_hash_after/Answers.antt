-- The label's hash joined to what is kept of the text, and then the length block, is the hash of both (`half_auth`).
use Rattle.ghash.proofs.Names.{arith, whole-lt}
use Rattle.ghash.proofs.JoinedBytes.{half_auth}
use Rattle.ghash.proofs.halves.galois_hash_after.Goals as goal

pub returns : goal.returns
returns c =
    let h = c.args.h in
    half_auth _ _ _ _ _ _ (whole-lt h.high h.low (omega (arith, c.well_formed)) (omega (arith, c.well_formed))) c.requires.half_of
    c.hash_blocks.ensures c.after-y.ensures c.absorb_lengths.ensures
