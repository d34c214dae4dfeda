-- What the steps of a walk over counters say: in Ctr and in Gctr its states are counters.
use Rattle.std.specs.Prelude.{ℕ, zero, suc, ◌-◌, Bool, false, ◌||◌, List, length, take, drop}
use Rattle.counter.specs.Counter.{ctr_passes, gcm_next, gcm_passes}
use Rattle.counter.specs.CameRound.{blocks_of}
use Rattle.walk.specs.Walk.{Mode}
use Rattle.stream.specs.declared.Kind.TheVariants.{Ctr, Gctr}
use Rattle.stream.specs.Stream.{stream_mode}

-- whether one of the first n steps of the walk over d from the state s on passes
unfoldable pub walk_passes : Mode → (List ℕ → Bool) → ℕ → List ℕ → List ℕ → Bool
walk_passes m passes zero s d = false
walk_passes m passes (suc n) s d = passes s || walk_passes m passes n (m.next s (take 16 d)) (drop 16 d)

-- Ctr over d from the IV on: the steps between its blocks; the walk steps once more after the last, which does not count
unfoldable pub ctr_walk_says : List ℕ → List ℕ → List ℕ → Bool
ctr_walk_says rk iv d = walk_passes (stream_mode Ctr rk) ctr_passes (blocks_of (length d) - 1) iv d

-- GCM over b blocks d from J0 on: the step to the first block, and those between
abbrev pub gcm_blocks_say : List ℕ → List ℕ → List ℕ → ℕ → Bool
gcm_blocks_say rk j d zero = false
gcm_blocks_say rk j d (suc b) = gcm_passes j || walk_passes (stream_mode Gctr rk) gcm_passes b (gcm_next j) d

unfoldable pub gcm_walk_says : List ℕ → List ℕ → List ℕ → Bool
gcm_walk_says rk j d = gcm_blocks_say rk j d (blocks_of (length d))
