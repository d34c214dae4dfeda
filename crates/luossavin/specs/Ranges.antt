-- The exported calls on ranges and plans: what each one leaves. They are those of `ranges` on the record that the host's is.
use Rattle.std.specs.Prelude.{ℕ, Bool, List, Result, Ok, Err}
use Rattle.cipher_mode.specs.Outcome.{Head, Outcome, refusal}
use Rattle.ranges.specs.declared.plan.NotMade.{NotMade}
use Rattle.ranges.specs.declared.plan.NotMade.TheVariants.{BadWorkers, TooLong}
use Rattle.ranges.specs.declared.plan.Plan.{Plan}
use Rattle.ranges.specs.Plan.{no_pieces, planned}
use Rattle.ranges.specs.Range.{range_call}
use Rattle.ranges.specs.ByPlan.{plan_call}
use Rattle.luossavin.specs.declared.key.LuossavinKey.{LuossavinKey}
use Rattle.luossavin.specs.declared.workers.LuossavinPlanned.{LuossavinPlanned}
use Rattle.luossavin.specs.Key.{cipher_in}
use Rattle.luossavin.specs.Host.{head_in}
use Rattle.luossavin.specs.InPieces.{direction_of}

-- the number for each reason why no plan was made
abbrev pub not_made_number : NotMade → ℕ
not_made_number BadWorkers = 17
not_made_number TooLong = 5

-- the number of the planner's answer, which is on no key
abbrev pub making_number : Result Plan NotMade → ℕ
making_number (Ok p) = 0
making_number (Err e) = not_made_number e

abbrev pub making_head : Result Plan NotMade → Head
making_head m = refusal (making_number m)

-- the plan that was made, or none
abbrev pub plan_told : Result Plan NotMade → Plan
plan_told (Ok p) = p
plan_told (Err e) = no_pieces

-- what a host is handed of a plan that was made, or was not
pub record Handed : Type 0 where
  pub head : Head
  pub plan : Plan

abbrev pub planned_reported : LuossavinPlanned → Handed
planned_reported r = record { head = head_in r.answer; plan = r.plan }

unfoldable pub host_plan_make : ℕ → ℕ → Handed
host_plan_make n workers = record { head = making_head (planned n workers); plan = plan_told (planned n workers) }

unfoldable pub host_ctr_range : LuossavinKey → Bool → List ℕ → ℕ → List ℕ → List ℕ → Outcome
host_ctr_range k decrypt iv offset d o = range_call (direction_of decrypt) (cipher_in k) iv offset d o

unfoldable pub host_ctr_by_plan : LuossavinKey → Bool → List ℕ → Plan → List ℕ → List ℕ → Outcome
host_ctr_by_plan k decrypt iv plan d o = plan_call (direction_of decrypt) (cipher_in k) iv plan d o
