-- `cipher_mode::Sm4CipherMode::worked` meets its contract: where all checks passed, the work leaves what the definition goes on to.
use Rattle.block.proofs.Base.{sym}
use Rattle.cipher_mode.proofs.Passed.{message_passed}
use Rattle.cipher_mode.proofs.Sm4CipherMode.worked.Goals as goal

pub by_mode-requires : goal.by_mode-requires
by_mode-requires c =
    let in_order = message_passed _ _ _ _ _ (sym c.in_ok-message.ensures) in
    record { iv_value = in_order.iv-size; aad_value = in_order.label; data_value = in_order.content; data_in_bounds = in_order.room }

pub returns : goal.returns
returns c = rw (← c.in_ok-message.ensures) c.by_mode.ensures
