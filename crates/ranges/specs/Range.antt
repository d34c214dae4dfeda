-- Ctr from any byte on: what a range gives, and what is refused of it.
use Rattle.std.specs.Prelude.{ℕ, ◌+◌, Bool, List, ◌++◌, Ok, ltb, length, drop, replicate}
use Rattle.cipher_mode.specs.Outcome.{Outcome, keyed, done}
use Rattle.walk.specs.Walk.{chain}
use Rattle.stream.specs.Stream.{stream_mode}
use Rattle.stream.specs.declared.Kind.TheVariants.{Ctr as CtrKind}
use Rattle.cipher_mode.specs.declared.KeyAnswer.{KeyAnswer}
use Rattle.cipher_mode.specs.declared.CipherMode.TheVariants.{Ctr}
use Rattle.cipher_mode.specs.declared.Direction.{Direction}
use Rattle.cipher_mode.specs.declared.Sm4Cipher.{Sm4Cipher}
use Rattle.cipher_mode.specs.declared.answer.Refusal.TheVariants.{TooLong, NoRoom}
use Rattle.cipher_mode.specs.Key.{key_number}
use Rattle.cipher_mode.specs.Tables.{limit}
use Rattle.cipher_mode.specs.Checks.{Checked, refuse, and_then, key_and_iv, checked}

-- what Ctr gives of d where it stands at `offset` of a text: that stretch of the single call's result, whatever is before it
unfoldable pub stretch : List ℕ → List ℕ → ℕ → List ℕ → List ℕ
stretch rk iv offset d = drop offset (chain (stream_mode CtrKind rk) iv (replicate offset 0 ++ d))

-- what is refused of a stretch that ends at byte `end`, with an IV of this length: as in the single call of a text that ends there
unfoldable pub reach_check : KeyAnswer → Bool → Direction → ℕ → ℕ → Checked
reach_check a retired dir iv end = and_then (key_and_iv a retired dir Ctr iv) (refuse (ltb limit end) TooLong (Ok tt))

-- and of n bytes at `offset`, with so much room
unfoldable pub range_check : KeyAnswer → Bool → Direction → ℕ → ℕ → ℕ → ℕ → Checked
range_check a retired dir iv offset n room = and_then (reach_check a retired dir iv (offset + n)) (refuse (ltb room n) NoRoom (Ok tt))

-- how the stretch d at `offset` ends, into the output o, whichever key it is on
abbrev pub range_ended : Direction → Sm4Cipher → List ℕ → ℕ → List ℕ → List ℕ → Outcome
range_ended dir c iv offset d o =
    checked (range_check c.answer c.retired dir (length iv) offset (length d) (length o)) o
    (done (stretch c.rk iv offset d) o)

-- the stretch d at `offset`, into the output o; nothing is said of a counter
unfoldable pub range_call : Direction → Sm4Cipher → List ℕ → ℕ → List ℕ → List ℕ → Outcome
range_call dir c iv offset d o = keyed (key_number c) (range_ended dir c iv offset d o)
