-- The exported calls on messages in pieces: what each one leaves. A piece and an end are those of `pieces`; a start takes the
-- host's record of a key.
use Rattle.std.specs.Prelude.{ℕ, Bool, true, false, List}
use Rattle.cipher_mode.specs.declared.Direction.{Direction}
use Rattle.cipher_mode.specs.declared.Direction.TheVariants.{Encrypt, Decrypt}
use Rattle.pieces.specs.declared.ctr.Ctr.{Ctr}
use Rattle.pieces.specs.declared.opens.Opens.{Opens}
use Rattle.pieces.specs.declared.seal.Seal.{Seal}
use Rattle.pieces.specs.Calls.{Stepped, ctr_start, seal_start, opens_start}
use Rattle.luossavin.specs.declared.in_pieces.LuossavinCtrStep.{LuossavinCtrStep}
use Rattle.luossavin.specs.declared.in_pieces.LuossavinOpensStep.{LuossavinOpensStep}
use Rattle.luossavin.specs.declared.in_pieces.LuossavinSealStep.{LuossavinSealStep}
use Rattle.luossavin.specs.declared.key.LuossavinKey.{LuossavinKey}
use Rattle.luossavin.specs.Key.{cipher_in}
use Rattle.luossavin.specs.Host.{head_in}

-- what a host's step and the output o are together
abbrev pub ctr_reported : LuossavinCtrStep → List ℕ → Stepped Ctr
ctr_reported r o = record { head = head_in r.answer; bytes = o; state = r.state }

abbrev pub seal_reported : LuossavinSealStep → List ℕ → Stepped Seal
seal_reported r o = record { head = head_in r.answer; bytes = o; state = r.state }

abbrev pub opens_reported : LuossavinOpensStep → List ℕ → Stepped Opens
opens_reported r o = record { head = head_in r.answer; bytes = o; state = r.state }

abbrev pub direction_of : Bool → Direction
direction_of true = Decrypt
direction_of false = Encrypt

unfoldable pub host_ctr_start : LuossavinKey → Bool → List ℕ → Stepped Ctr
host_ctr_start k decrypt iv = ctr_start (direction_of decrypt) (cipher_in k) iv

unfoldable pub host_seal_start : LuossavinKey → List ℕ → List ℕ → Stepped Seal
host_seal_start k label iv = seal_start (cipher_in k) label iv

unfoldable pub host_opens_start : LuossavinKey → List ℕ → List ℕ → Stepped Opens
host_opens_start k label iv = opens_start (cipher_in k) label iv
