-- The five modes that xor a message with the cipher of a state: Cfb (its segments are whole blocks), Ofb and Ctr of
-- SP 800-38A, and GCTR of SP 800-38D. A short rest is xored with the front of the cipher's output; SP 800-38A leaves Cfb
-- open there, and libsm does it so.
use Rattle.std.specs.Prelude.{ℕ, Bool, true, false, List}
use Rattle.block.specs.Xor.{xors}
use Rattle.cipher.specs.Sm4.{encrypt_block}
use Rattle.counter.specs.Counter.{ctr_next, gcm_next}
use Rattle.walk.specs.Walk.{Mode}
use Rattle.stream.specs.declared.KnownAhead.{KnownAhead}
use Rattle.stream.specs.declared.KnownAhead.TheVariants.{Counter, Feedback}
use Rattle.stream.specs.declared.Kind.{Kind}
use Rattle.stream.specs.declared.Kind.TheVariants.{CfbEncrypt, CfbDecrypt, Ofb, Ctr, Gctr}

-- the next state, where s is the state, e the cipher of s, b a block of the message and c what it becomes:
-- Cfb: the ciphertext block; Ofb: the cipher's output; Ctr and Gctr: the next counter, each by its own step
abbrev pub state_after : Kind → List ℕ → List ℕ → List ℕ → List ℕ → List ℕ
state_after CfbEncrypt s e b c = c
state_after CfbDecrypt s e b c = b
state_after Ofb s e b c = e
state_after Ctr s e b c = ctr_next s
state_after Gctr s e b c = gcm_next s

abbrev pub stream_mode : Kind → List ℕ → Mode
stream_mode k rk = record {
  block = λ s b. xors b (encrypt_block rk s);
  next = λ s b. state_after k s (encrypt_block rk s) b (xors b (encrypt_block rk s));
  rest = λ s d. xors d (encrypt_block rk s);
}

-- the kind that takes back what a kind did
abbrev pub opener : Kind → Kind
opener CfbEncrypt = CfbDecrypt
opener CfbDecrypt = CfbEncrypt
opener Ofb = Ofb
opener Ctr = Ctr
opener Gctr = Gctr

-- the kinds whose states are counters: of all sixteen bytes, or of the last four
abbrev pub counting : Bool → Kind
counting true = Ctr
counting false = Gctr

-- the kinds whose states are known before a block is ciphered
abbrev pub kind_of : KnownAhead → Kind
kind_of Feedback = CfbDecrypt
kind_of (Counter wide) = counting wide
