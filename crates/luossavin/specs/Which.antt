-- The exported call that asks which of many labels a file opens under: what it leaves. It is the call of `editions` on the record that
-- the host's is.
use Rattle.std.specs.Prelude.{ℕ, cond, List, Option, Some, None, Result, Ok, Err}
use Rattle.cipher_mode.specs.Outcome.{Head, finished, refusal}
use Rattle.editions.specs.Which.{Verdict, which, unanswered_head}
use Rattle.editions.specs.declared.Candidate.{Candidate}
use Rattle.editions.specs.declared.Unanswered.{Unanswered}
use Rattle.luossavin.specs.declared.key.LuossavinKey.{LuossavinKey}
use Rattle.luossavin.specs.declared.which.LuossavinFound.{LuossavinFound}
use Rattle.luossavin.specs.Key.{cipher_in}
use Rattle.luossavin.specs.Host.{head_in}

-- what a host is told: found is 1 or 0
pub record Told : Type 0 where
  pub head : Head
  pub found : ℕ
  pub place : ℕ
  pub start : ℕ
  pub size : ℕ

abbrev pub found_reported : LuossavinFound → Told
found_reported r = record { head = head_in r.answer; found = r.found; place = r.place; start = r.start; size = r.length }

abbrev pub told_of : Verdict → Told
told_of v = record { head = v.head; found = cond v.found 1 0; place = v.place; start = v.start; size = v.size }

unfoldable pub host_which : LuossavinKey → List ℕ → List ℕ → List ℕ → List ℕ → Told
host_which k file iv labels lengths = told_of (which (cipher_in k) file iv labels lengths)

-- how a question ended, as an answer, where n is the number that says that no candidate opens: 0 or 4
abbrev pub ended_head : ℕ → Result (Option Candidate) Unanswered → Head
ended_head n (Ok (Some c)) = finished 0
ended_head n (Ok None) = refusal n
ended_head n (Err e) = unanswered_head e
