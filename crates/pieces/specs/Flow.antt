-- Key stream in pieces. The two modes whose next state is the next counter, whatever the text is, go on from any byte.
use Rattle.std.specs.Prelude.{ℕ, ◌-◌, cond, List, ◌++◌, ltb, length, drop}
use Rattle.block.specs.Xor.{xors}
use Rattle.cipher.specs.Sm4.{encrypt_block}
use Rattle.counter.specs.Counter.{ctr_next, gcm_next}
use Rattle.walk.specs.Walk.{Mode, chain, end_state}
use Rattle.stream.specs.Stream.{stream_mode}
use Rattle.stream.specs.declared.Kind.{Kind}
use Rattle.stream.specs.declared.Kind.TheVariants.{Ctr as CtrKind, Gctr as GctrKind}
use Rattle.pieces.specs.declared.flow.Counting.{Counting}
use Rattle.pieces.specs.declared.flow.Counting.TheVariants.{Ctr, Gcm}
use Rattle.pieces.specs.declared.flow.Flow.{Flow}

abbrev pub kind_of : Counting → Kind
kind_of Ctr = CtrKind
kind_of Gcm = GctrKind

abbrev pub next_counter : Counting → List ℕ → List ℕ
next_counter Ctr s = ctr_next s
next_counter Gcm s = gcm_next s

-- the walk of the single call
abbrev pub flow_mode : Counting → List ℕ → Mode
flow_mode c rk = stream_mode (kind_of c) rk

-- the flow at the counter s
abbrev pub flow_at : List ℕ → List ℕ → Flow
flow_at rk s = record { counter = s; pad = encrypt_block rk s }

-- after the text d, from the counter s on: the counter of the block that is begun, and its cipher
unfoldable pub flow_after : Counting → List ℕ → List ℕ → List ℕ → Flow
flow_after c rk s d = flow_at rk (end_state (flow_mode c rk) s d)

-- what the text e gives from place p of the begun block on: the rest of the pad, and then the stream from the next counter on
unfoldable pub flow_text : Counting → List ℕ → Flow → ℕ → List ℕ → List ℕ
flow_text c rk f p e = xors e (drop p f.pad) ++ chain (flow_mode c rk) (next_counter c f.counter) (drop (16 - p) e)

-- where the flow is after it
unfoldable pub flow_next : Counting → List ℕ → Flow → ℕ → List ℕ → Flow
flow_next c rk f p e = cond (ltb (length e) (16 - p)) f (flow_after c rk (next_counter c f.counter) (drop (16 - p) e))
