-- `cipher_mode::work::Message::by_cbc` meets its contract: sealing is as long as the table says, and opening answers as `cbc::decrypt`.
use Rattle.block.proofs.Base.{◌∙◌, ap, sym, List, ℕ}
use Rattle.cipher_mode.specs.Outcome.{Head, Outcome, leaving}
use Rattle.block.specs.Over.{over}
use Rattle.cbc.specs.Cbc.{cbc_seal}
use Rattle.cipher_mode.specs.Calls.{cbc_open}
use Rattle.cbc.proofs.RoundTrip.{length-cbc_seal}
use Rattle.cipher_mode.proofs.Passed.{data-within, whole-blocks_passed}
use Rattle.cipher_mode.proofs.Ends.{reached}
use Rattle.cipher_mode.proofs.Opens.{cbc_left}
use Rattle.block.proofs.Base.{◌≡◌, refl}
use Rattle.std.proofs.Common.{Result, Ok, Err}
use Rattle.std.proofs.lemmas.Result.{err_from_is_err_and}
use Rattle.padding.specs.Padding.{unpadded, opened_into}
use Rattle.padding.specs.declared.BadPadding.{BadPadding}
use Rattle.cbc.specs.Cbc.{cbc_text}
use Rattle.cipher_mode.specs.Calls.{cbc_head}
use Rattle.cipher_mode.proofs.Opens.{padding_head}
use Rattle.cipher_mode.proofs.work.Message.by_cbc.Goals as goal

pub encrypted_length-length-requires : goal.encrypted_length-length-requires
encrypted_length-length-requires c = rw c.in-Encrypt.is at (data-within _ _ _ c.requires.data_value)

pub decrypt-requires-clause-in_bounds : goal.decrypt-requires-clause-in_bounds
decrypt-requires-clause-in_bounds c = (whole-blocks_passed _ (rw c.in-Decrypt.is at c.requires.data_value)).0

pub decrypt-requires-clause-data_len : goal.decrypt-requires-clause-data_len
decrypt-requires-clause-data_len c = (whole-blocks_passed _ (rw c.in-Decrypt.is at c.requires.data_value)).1

-- what opening leaves, by what is decided of the padding
opened : (rk iv start d o w : List ℕ) (a : Result ℕ BadPadding) (h : Head) → start ≡ iv → a ≡ unpadded (cbc_text rk start d)
    → w ≡ opened_into (cbc_text rk start d) o → h ≡ cbc_head a → leaving h w ≡ cbc_open rk iv d o
opened rk iv start d o w a h is_iv e f told =
    ap {B = Outcome} (λ (h : Head). leaving h w) told ∙ cbc_left rk start d o w a e f
    ∙ ap {B = Outcome} (λ (s : List ℕ). cbc_open rk s d o) is_iv

pub returns-in-Encrypt : goal.returns-in-Encrypt
returns-in-Encrypt c =
    let m = c.args.self.now in
    let iv = m.iv.now in
    let d = m.«data».now in
    let o = c.args.out.now in
    rw c.in-Encrypt.is (reached (cbc_seal m.rk iv d) o _ _ (length-cbc_seal m.rk iv d ∙ sym c.encrypted_length-length.ensures)
    (c.encrypt.ensures ∙ ap (λ (s : List ℕ). over (cbc_seal m.rk s d) o) c.iv_block-start.ensures))

pub returns-in_ok-length-in-Decrypt : goal.returns-in_ok-length-in-Decrypt
returns-in_ok-length-in-Decrypt c =
    let m = c.args.self.now in
    let x = c.in_ok-length-in-Decrypt in
    rw c.in-Decrypt.is (opened m.rk (m.iv.now) _ (m.«data».now) (c.args.out.now) _ (Ok x.«length») _ c.iv_block-start.ensures
    x.ensures.value x.ensures.out_after refl)

pub returns-in_err-length-in-Decrypt : goal.returns-in_err-length-in-Decrypt
returns-in_err-length-in-Decrypt c =
    let m = c.args.self.now in
    let x = c.in_err-length-in-Decrypt in
    let p = err_from_is_err_and c.from_residual.result c.from_residual.ensures.1 in
    rw (p.1, p.2, c.in-Decrypt.is) (opened m.rk (m.iv.now) _ (m.«data».now) (c.args.out.now) _ (Err x.field-0.0) _ c.iv_block-start.ensures
    x.ensures.value x.ensures.out_after (padding_head x.field-0.0))
