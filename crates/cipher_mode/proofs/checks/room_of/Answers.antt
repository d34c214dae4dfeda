-- `cipher_mode::checks::room_of`: data in order is no longer than its mode takes, and Gcm's sealed data has a tag.
use Rattle.cipher_mode.proofs.Passed.{data-within, with_tag_passed}
use Rattle.cipher_mode.proofs.checks.room_of.Goals as goal

pub encrypted_length-requires : goal.encrypted_length-requires
encrypted_length-requires c = rw c.in-Encrypt-default.is-0 at (data-within _ _ _ c.requires)

pub overflow_sub-result : goal.overflow_sub-result
overflow_sub-result c = with_tag_passed _ (rw (c.in-Decrypt-Gcm.is-0, c.in-Decrypt-Gcm.is-1) at c.requires)
