-- The bytes of tau are the S-box's, from whichever end they are taken (`low_tau`).
use Rattle.cipher.proofs.Names.{◌∙◌}
use Rattle.cipher.proofs.FourTables.{low_tau}
use Rattle.cipher.proofs.plain.tau_trans.Goals as goal

pub returns : goal.returns
returns c =
    c.from_le_bytes.ensures
    ∙ low_tau _ c.to_le_bytes.result c.map.result c.to_le_bytes.ensures (λ i h. let call = c.map.ensures.items.at i 0 0 h in call.2.met)
