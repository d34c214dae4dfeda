-- The three states: after a text, and shut. Each carries the number k of its key, and where blocks are still to come the mark m of
-- its engine.
use Rattle.std.specs.Prelude.{ℕ, List, length, replicate}
use Rattle.cipher.specs.Sm4.{encrypt_block}
use Rattle.counter.specs.Counter.{gcm_next, last_four}
use Rattle.gcm.specs.Gcm.{hash_key, J0, text_of}
use Rattle.pieces.specs.declared.flow.Counting.TheVariants.{Ctr as CtrCounting, Gcm as GcmCounting}
use Rattle.pieces.specs.declared.flow.Flow.{Flow}
use Rattle.pieces.specs.declared.hashing.Hashing.{Hashing}
use Rattle.pieces.specs.declared.ctr.Ctr.{Ctr}
use Rattle.pieces.specs.declared.opens.Opens.{Opens}
use Rattle.pieces.specs.declared.seal.Seal.{Seal}
use Rattle.pieces.specs.Flow.{flow_after}
use Rattle.pieces.specs.Hashing.{hash_of}

-- Ctr under the round keys rk and the IV iv, after the text d
unfoldable pub ctr_after : ℕ → ℕ → List ℕ → List ℕ → List ℕ → Ctr
ctr_after k m rk iv d =
    record { rk = rk; flow = flow_after CtrCounting rk iv d; first = iv; total = length d; stands = 0; key = k; engine = m }

-- Gcm sealing under a label: counters from one after J0 on, the hash of what was written, and the cipher of J0 for the tag
unfoldable pub seal_after : ℕ → ℕ → List ℕ → List ℕ → List ℕ → List ℕ → Seal
seal_after k m rk label iv d = record {
  rk = rk;
  flow = flow_after GcmCounting rk (gcm_next (J0 rk iv)) d;
  hashing = hash_of (hash_key rk) label (text_of rk (J0 rk iv) d);
  mask = encrypt_block rk (J0 rk iv);
  label = length label;
  total = length d;
  low = last_four (J0 rk iv);
  stands = 0;
  key = k;
  engine = m;
}

-- Gcm opening under a label, after the ciphertext c
unfoldable pub opens_after : ℕ → List ℕ → List ℕ → List ℕ → List ℕ → Opens
opens_after k rk label iv c = record {
  hashing = hash_of (hash_key rk) label c;
  mask = encrypt_block rk (J0 rk iv);
  label = length label;
  total = length c;
  low = last_four (J0 rk iv);
  stands = 0;
  key = k;
}

-- a flow and a hash of nothing but zeros
abbrev pub no_flow : Flow
no_flow = record { counter = replicate 16 0; pad = replicate 16 0 }

abbrev pub no_hashing : Hashing
no_hashing = record { h = replicate 16 0; y = replicate 16 0; held = replicate 16 0 }

-- no message, with the number of the refusal that every call answers; nothing of a key is in it but its number
unfoldable pub ctr_shut : ℕ → ℕ → Ctr
ctr_shut k n = record { rk = replicate 32 0; flow = no_flow; first = replicate 16 0; total = 0; stands = n; key = k; engine = 0 }

unfoldable pub seal_shut : ℕ → ℕ → Seal
seal_shut k n = record {
  rk = replicate 32 0;
  flow = no_flow;
  hashing = no_hashing;
  mask = replicate 16 0;
  label = 0;
  total = 0;
  low = 0;
  stands = n;
  key = k;
  engine = 0;
}

unfoldable pub opens_shut : ℕ → ℕ → Opens
opens_shut k n = record { hashing = no_hashing; mask = replicate 16 0; label = 0; total = 0; low = 0; stands = n; key = k }
