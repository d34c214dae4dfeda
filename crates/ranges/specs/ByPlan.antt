-- Work by a plan: what it leaves. Any accepted plan gives the single call's bytes.
use Rattle.std.specs.Prelude.{ℕ, not, List, Result, Ok, Err, ltb, length}
use Rattle.cipher_mode.specs.Outcome.{Head, Outcome, finished, refusal, under, leaving, keyed, refuse, done}
use Rattle.walk.specs.Walk.{chain}
use Rattle.stream.specs.Stream.{stream_mode}
use Rattle.stream.specs.declared.Kind.TheVariants.{Ctr as CtrKind}
use Rattle.cipher_mode.specs.declared.Direction.{Direction}
use Rattle.cipher_mode.specs.declared.Sm4Cipher.{Sm4Cipher}
use Rattle.cipher_mode.specs.Answer.{refusal_head}
use Rattle.cipher_mode.specs.Key.{key_number}
use Rattle.cipher_mode.specs.Checks.{checked}
use Rattle.ranges.specs.declared.plan.Plan.{Plan}
use Rattle.ranges.specs.declared.by_plan.NotDone.{NotDone}
use Rattle.ranges.specs.declared.by_plan.NotDone.TheVariants.{NotAccepted, Refused}
use Rattle.ranges.specs.declared.by_plan.ByPlan.{ByPlan}
use Rattle.ranges.specs.Plan.{accepts}
use Rattle.ranges.specs.Range.{reach_check}

abbrev pub ended_head : Result ℕ NotDone → Head
ended_head (Ok n) = finished n
ended_head (Err NotAccepted) = refusal 18
ended_head (Err (Refused r)) = refusal_head r

-- the outcome of an answer with the output o
abbrev pub planned_outcome : ByPlan → List ℕ → Outcome
planned_outcome a o = leaving (under a.key (ended_head a.ended)) o

-- how the data d ends by a plan, into the output o, whichever key it is on: 18, for a plan that is not accepted, stands between 5 and 6
abbrev pub plan_ended : Direction → Sm4Cipher → List ℕ → Plan → List ℕ → List ℕ → Outcome
plan_ended dir c iv plan d o =
    checked (reach_check c.answer c.retired dir (length iv) (length d)) o
    (refuse (not (accepts plan (length d))) 18 o
    (refuse (ltb (length o) (length d)) 6 o
    (done (chain (stream_mode CtrKind c.rk) iv d) o)))

-- the data d by a plan, into the output o
unfoldable pub plan_call : Direction → Sm4Cipher → List ℕ → Plan → List ℕ → List ℕ → Outcome
plan_call dir c iv plan d o = keyed (key_number c) (plan_ended dir c iv plan d o)
