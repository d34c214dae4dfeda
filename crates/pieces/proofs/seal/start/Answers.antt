-- `pieces::seal::start` meets its contract: what the checks refuse is refused, and otherwise the flow is at the counter after J0,
-- and J0, the label's hash and the cipher of J0 are `tagging::begin`'s.
use Rattle.pieces.proofs.Names.{GcmCounting, J0, ◌∙◌, gcm_next, iv_twelve_or_sixteen, seal_after, seal_start, sym}
use Rattle.pieces.proofs.KeyStream.{flow_start}
use Rattle.pieces.proofs.Passing.{starting_passed}
use Rattle.pieces.proofs.Sealing.{no_text}
use Rattle.pieces.proofs.seal.start.Goals as goal

pub begin-begun-requires : goal.begin-begun-requires
begin-begun-requires c =
    iv_twelve_or_sixteen _ (starting_passed _ _ _ _ _ (sym c.gcm_start-checked.ensures ∙ c.in_default.is)).taken

pub returns : goal.returns
unfolding seal_start seal_after
returns c =
    let a = c.args in
    let j = J0 a.cipher.rk (a.iv.now) in
    let begun = c.begin-begun.ensures in
    rw (← c.gcm_start-checked.ensures, c.in_default.is, c.done.ensures, c.begin.ensures)
    (rw (c.gcm_block_add_one.ensures.counter_value, begun.j0_value, begun.hashing_value, begun.mask_value, begun.low_value)
    (rw (← flow_start GcmCounting a.cipher.rk (gcm_next j), no_text a.cipher.rk j, c.number_in-key.ensures)))
