-- A key's record as a host holds it: what each value means, and the three calls that hand one back.
use Rattle.std.specs.Prelude.{ℕ, not, cond, List, eqb, ltb}
use Rattle.cipher_mode.specs.declared.KeyAnswer.{KeyAnswer}
use Rattle.cipher_mode.specs.declared.KeyAnswer.TheVariants.{Key, ErrorBlockSize, WrongNumber}
use Rattle.cipher_mode.specs.declared.Sm4Cipher.{Sm4Cipher}
use Rattle.cipher_mode.specs.Key.{key_head, new_cipher}
use Rattle.luossavin.specs.declared.key.LuossavinKey.{LuossavinKey}

-- 0 is a key, 13 answers 13, and all else 1
unfoldable pub key_answer_of : ℕ → KeyAnswer
key_answer_of n = cond (eqb n 0) Key (cond (eqb n 13) WrongNumber ErrorBlockSize)

-- what a host's record is: retired is 0 for unretired, and all else is retired
unfoldable pub cipher_in : LuossavinKey → Sm4Cipher
cipher_in k = record {
  rk = k.round_keys;
  answer = key_answer_of k.answer;
  number = k.number;
  retired = not (eqb k.retired 0);
  engine = k.engine;
}

-- the record that a host is handed
unfoldable pub key_of : Sm4Cipher → LuossavinKey
key_of c = record {
  round_keys = c.rk;
  answer = (key_head c.answer).number;
  number = c.number;
  retired = cond c.retired 1 0;
  engine = c.engine;
}

unfoldable pub host_key_new : List ℕ → ℕ → LuossavinKey
host_key_new key number = key_of (new_cipher key number)

-- the record retired; of no key the same no key
unfoldable pub host_key_retire : LuossavinKey → LuossavinKey
host_key_retire k =
    cond (eqb k.answer 0)
    (record { round_keys = k.round_keys; answer = 0; number = k.number; retired = 1; engine = k.engine })
    k

-- the mark of an engine: 1 is the four tables, 2 the gates, 3 the plain engine, and all else leaves the choice to the library
abbrev pub engine_mark : ℕ → ℕ
engine_mark e = cond (ltb 3 e) 0 e

-- the record with an engine
unfoldable pub host_key_engine : LuossavinKey → ℕ → LuossavinKey
host_key_engine k e = record {
  round_keys = k.round_keys;
  answer = k.answer;
  number = k.number;
  retired = k.retired;
  engine = engine_mark e;
}
