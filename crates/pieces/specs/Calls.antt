-- The calls: what each one leaves, from the inputs alone, whatever the state's fields hold.
use Rattle.std.specs.Prelude.{ℕ, ◌+◌, ◌%◌, cond, List, [], length, Ok, Err}
use Rattle.block.specs.Same.{same}
use Rattle.block.specs.Xor.{xors}
use Rattle.counter.specs.CameRound.{blocks_of, ctr_came_round, gcm_came_round}
use Rattle.cipher_mode.specs.Outcome.{Head, finished, refusal, under, telling}
use Rattle.block.specs.Over.{over}
use Rattle.cipher_mode.specs.declared.CipherMode.TheVariants.{Ctr as CtrMode}
use Rattle.cipher_mode.specs.declared.Direction.{Direction}
use Rattle.cipher_mode.specs.declared.Direction.TheVariants.{Encrypt, Decrypt}
use Rattle.cipher_mode.specs.declared.Sm4Cipher.{Sm4Cipher}
use Rattle.cipher_mode.specs.declared.answer.Refusal.TheVariants.{Ended}
use Rattle.cipher_mode.specs.Answer.{refusal_head, head_of}
use Rattle.cipher_mode.specs.Key.{key_number}
use Rattle.cipher_mode.specs.Checks.{Checked, key_and_iv}
use Rattle.pieces.specs.declared.flow.Counting.TheVariants.{Ctr as CtrCounting, Gcm as GcmCounting}
use Rattle.pieces.specs.declared.ctr.Ctr.{Ctr}
use Rattle.pieces.specs.declared.opens.Opens.{Opens}
use Rattle.pieces.specs.declared.seal.Seal.{Seal}
use Rattle.pieces.specs.declared.Step.{Step}
use Rattle.pieces.specs.Flow.{flow_text, flow_next}
use Rattle.pieces.specs.Hashing.{hash_next, hash_end}
use Rattle.pieces.specs.Checks.{gcm_starting, running, writing, tagged}
use Rattle.pieces.specs.States.{ctr_after, ctr_shut, seal_after, seal_shut, opens_after, opens_shut}

-- what a call leaves
pub record Stepped (S : Type 0) : Type 0 where
  pub head : Head
  -- the whole output buffer, or [] where none was lent
  pub bytes : List ℕ
  pub state : S

-- what a step and the output o are together
abbrev pub stepped : {S : Type 0} → Step S → List ℕ → Stepped S
stepped r o = record { head = head_of r.answer; bytes = o; state = r.state }

-- the same step, on the key of number k
abbrev pub step_on : (S : Type 0) → ℕ → Stepped S → Stepped S
step_on S k x = record { head = under k x.head; bytes = x.bytes; state = x.state }

-- the number that a state stands at after its end
abbrev pub ended : ℕ
ended = (refusal_head Ended).number

-- a start: a refused one gives a state that every call refuses by the same number
abbrev pub begun : (S : Type 0) → Checked → (ℕ → S) → S → Stepped S
begun S (Ok _) shut s = record { head = finished 0; bytes = []; state = s }
begun S (Err r) shut s = record { head = refusal_head r; bytes = []; state = shut (refusal_head r).number }

-- a piece or an end: a refusal leaves the output o and the state s as they came
abbrev pub goes_on : (S : Type 0) → Checked → List ℕ → S → Stepped S → Stepped S
goes_on S (Ok _) o s next = next
goes_on S (Err r) o s next = record { head = refusal_head r; bytes = o; state = s }

-- encryption and decryption differ in what a retired key may start
unfoldable pub ctr_start : Direction → Sm4Cipher → List ℕ → Stepped Ctr
ctr_start dir c iv =
    let k = key_number c in
    step_on Ctr k
    (begun Ctr (key_and_iv c.answer c.retired dir CtrMode (length iv)) (ctr_shut k) (ctr_after k c.engine c.rk iv []))

-- the piece e, into the output o
unfoldable pub ctr_piece : Ctr → List ℕ → List ℕ → Stepped Ctr
ctr_piece s e o =
    step_on Ctr s.key
    (goes_on Ctr (writing s.stands 0 s.total (length e) (length e) (length o)) o s
    (record {
      head = finished (length e);
      bytes = over (flow_text CtrCounting s.rk s.flow (s.total % 16) e) o;
      state = record {
        rk = s.rk;
        flow = flow_next CtrCounting s.rk s.flow (s.total % 16) e;
        first = s.first;
        total = s.total + length e;
        stands = 0;
        key = s.key;
        engine = s.engine;
      };
    }))

-- the end, which tells of the whole whether its counter came round
unfoldable pub ctr_end : Ctr → Stepped Ctr
ctr_end s =
    step_on Ctr s.key
    (goes_on Ctr (running s.stands 0 s.total 0) [] s
    (record {
      head = telling (ctr_came_round s.first (blocks_of s.total)) (finished 0);
      bytes = [];
      state = ctr_shut s.key ended;
    }))

unfoldable pub seal_start : Sm4Cipher → List ℕ → List ℕ → Stepped Seal
seal_start c label iv =
    let k = key_number c in
    step_on Seal k
    (begun Seal (gcm_starting c.answer c.retired Encrypt (length iv) (length label)) (seal_shut k)
    (seal_after k c.engine c.rk label iv []))

-- the piece e, into the output o: what is written is hashed
unfoldable pub seal_piece : Seal → List ℕ → List ℕ → Stepped Seal
seal_piece s e o =
    let p = s.total % 16 in
    let text = flow_text GcmCounting s.rk s.flow p e in
    step_on Seal s.key
    (goes_on Seal (writing s.stands s.label s.total (length e) (length e) (length o)) o s
    (record {
      head = finished (length e);
      bytes = over text o;
      state = record {
        rk = s.rk;
        flow = flow_next GcmCounting s.rk s.flow p e;
        hashing = hash_next s.hashing p text;
        mask = s.mask;
        label = s.label;
        total = s.total + length e;
        low = s.low;
        stands = 0;
        key = s.key;
        engine = s.engine;
      };
    }))

-- the tag, at the front of the output o, and whether the counter came round
unfoldable pub seal_end : Seal → List ℕ → Stepped Seal
seal_end s o =
    step_on Seal s.key
    (goes_on Seal (writing s.stands s.label s.total 0 16 (length o)) o s
    (record {
      head = telling (gcm_came_round s.low (blocks_of s.total)) (finished 16);
      bytes = over (xors s.mask (hash_end s.hashing (s.total % 16) s.label s.total)) o;
      state = seal_shut s.key ended;
    }))

unfoldable pub opens_start : Sm4Cipher → List ℕ → List ℕ → Stepped Opens
opens_start c label iv =
    let k = key_number c in
    step_on Opens k
    (begun Opens (gcm_starting c.answer c.retired Decrypt (length iv) (length label)) (opens_shut k) (opens_after k c.rk label iv []))

-- the piece e of the ciphertext, of which nothing is written
unfoldable pub opens_piece : Opens → List ℕ → Stepped Opens
opens_piece s e =
    step_on Opens s.key
    (goes_on Opens (running s.stands s.label s.total (length e)) [] s
    (record {
      head = finished 0;
      bytes = [];
      state = record {
        hashing = hash_next s.hashing (s.total % 16) e;
        mask = s.mask;
        label = s.label;
        total = s.total + length e;
        low = s.low;
        stands = 0;
        key = s.key;
      };
    }))

-- yes or no, by all sixteen bytes of the tag, and with a yes whether the counter came round
unfoldable pub opens_end : Opens → List ℕ → Stepped Opens
opens_end s tag =
    step_on Opens s.key
    (goes_on Opens (tagged s.stands s.label s.total (length tag)) [] s
    (record {
      head =
          cond (same tag (xors s.mask (hash_end s.hashing (s.total % 16) s.label s.total)))
          (telling (gcm_came_round s.low (blocks_of s.total)) (finished 0))
          (refusal 4);
      bytes = [];
      state = opens_shut s.key ended;
    }))
