-- Demand 1, that outcomes can be predicted: any two answers, outputs and states that a contract allows coincide. One theorem for each form
-- that a public call's contract has, whatever the definition in it gives.
use Rattle.demands.specs.Names as N
use N.{cond, not, List, [], ◌∷◌, ◌∙◌, ◌≡◌, ap, refl, sym, ◌-◌, ℕ, eqb, get_or, Head, Outcome, ending_head, head_of, outcome, refusal_head, Answer}
use N.{Option, None, Some, Result, Ok, Err, Done, Refusal, Stepped, stepped, Step, CtrState as Ctr, Opens, Seal, Verdict, ended_verdict}
use N.{verdict_of, Candidate, Unanswered, BadList, RefusedAsked, Found, plan_head, planned_outcome, ByPlan, NotDone, NotAccepted}
use N.{RefusedPlan, ShelfOutcome, Place, shelf_number, outcome_of, place_in, NotKept, Unshelved, BadShelf, NoCurrent, NoRoomShelf, NotHigher}
use N.{ShelfFound, Leaves, Unwritten, head_in, reported, ctr_reported, opens_reported, seal_reported, Handed, planned_reported}
use N.{shelf_reported, shelved_reported, Told, found_reported, LuossavinAnswer, LuossavinLabel, LuossavinCtrStep, LuossavinOpensStep}
use N.{LuossavinSealStep, LuossavinShelf, LuossavinShelved, LuossavinFound, LuossavinPlanned}
use Rattle.demands.proofs.Answering.{told_by, told_back, mark_back}
use Rattle.demands.specs.OneOutcome.{One, OneValue}

-- an answer that can be told back from what it spells is one alone, with its output or without
one_value : {R X : Type 0} {of : R → X} (back : X → R) → ((r : R) → back (of r) ≡ r) → (x : X) → OneValue R X of x
one_value {R} back told x r₁ r₂ e₁ e₂ = sym (told r₁) ∙ ap {B = R} back (e₁ ∙ sym e₂) ∙ told r₂

one : {R X : Type 0} {of : R → List ℕ → X} (back : X → R × List ℕ) → ((r : R) (o : List ℕ) → back (of r o) ≡ (r, o)) → (x : X)
    → One R X of x
one {R} back told x r₁ r₂ o₁ o₂ e₁ e₂ =
    let e = sym (told r₁ o₁) ∙ ap {B = R × List ℕ} back (e₁ ∙ sym e₂) ∙ told r₂ o₂ in
    (ap (λ (p : R × List ℕ). p.0) e, ap (λ (p : R × List ℕ). p.1) e)

-- an answer by its report, and a host's, field by field
abbrev done_as : Head → ℕ → Result Done Refusal
done_as h n = Ok (record { length = n; came_round = not (eqb h.came_round 0) })

abbrev ending_of : Head → Result Done Refusal
ending_of h = told_by (Result Done Refusal) (done_as h) Err (done_as h 0) h

abbrev answer_of : Head → Answer
answer_of h = record { ending = ending_of h; key = h.key }

ending_told : (e : Result Done Refusal) → ending_of (ending_head e) ≡ e
ending_told (Ok d) = rw (mark_back d.came_round)
ending_told (Err r) = (told_back (Result Done Refusal) (done_as (refusal_head r)) Err (done_as (refusal_head r) 0) r).0

answer-told : (a : Answer) → answer_of (head_of a) ≡ a
answer-told a = rw (ending_told a.ending)

abbrev host_answer_of : Head → LuossavinAnswer
host_answer_of h = record { number = h.number; missing = h.missing; came_round = h.came_round; key = h.key; length = h.size }

-- Contracts that say what the result is: a key's record set up, retired or marked, a host's too, a plan that is accepted or made, hashes, a
-- replay, a part of a buffer, and every number or place.
pub unique_value : (A : Type 0) (x : A) → OneValue A A (λ r. r) x
unique_value A = one_value (λ r. r) (λ r. refl)

-- Blocks, messages and ranges: the library's own, and the exported ones, work by a plan among them.
pub unique_outcome : (x : Outcome) → One Answer Outcome outcome x
unique_outcome = one (λ y. (answer_of y.head, y.bytes)) (λ a o. rw answer-told)

pub unique_report : (x : Outcome) → One LuossavinAnswer Outcome reported x
unique_report = one (λ y. (host_answer_of y.head, y.bytes)) (λ a o. refl)

-- Whether a file opens under an edition, which writes nothing, and a label.
pub unique_asked : (x : Head) → OneValue LuossavinAnswer Head head_in x
unique_asked = one_value host_answer_of (λ a. refl)

pub unique_label : (x : List ℕ) → OneValue LuossavinLabel (List ℕ) (λ l. l.bytes) x
unique_label = one_value (λ b. record { bytes = b }) (λ l. refl)

-- a step, whatever its state is
unique_step : {S : Type 0} (x : Stepped S) → One (Step S) (Stepped S) stepped x
unique_step = one (λ y. (record { answer = answer_of y.head; state = y.state }, y.bytes)) (λ r o. rw answer-told)

-- Messages in pieces, be it a start, a piece or an end: the next state too.
pub unique_ctr-step : (x : Stepped Ctr) → One (Step Ctr) (Stepped Ctr) stepped x
unique_ctr-step = unique_step

pub unique_seal-step : (x : Stepped Seal) → One (Step Seal) (Stepped Seal) stepped x
unique_seal-step = unique_step

pub unique_opens-step : (x : Stepped Opens) → One (Step Opens) (Stepped Opens) stepped x
unique_opens-step = unique_step

pub unique_exported_ctr-step : (x : Stepped Ctr) → One LuossavinCtrStep (Stepped Ctr) ctr_reported x
unique_exported_ctr-step = one (λ y. (record { answer = host_answer_of y.head; state = y.state }, y.bytes)) (λ r o. refl)

pub unique_exported_seal-step : (x : Stepped Seal) → One LuossavinSealStep (Stepped Seal) seal_reported x
unique_exported_seal-step = one (λ y. (record { answer = host_answer_of y.head; state = y.state }, y.bytes)) (λ r o. refl)

pub unique_exported_opens-step : (x : Stepped Opens) → One LuossavinOpensStep (Stepped Opens) opens_reported x
unique_exported_opens-step = one (λ y. (record { answer = host_answer_of y.head; state = y.state }, y.bytes)) (λ r o. refl)

-- Which label a file opens under.
abbrev Asked : Type 0
Asked = Result (Option Candidate) Unanswered

abbrev asked_of : Verdict → Asked
asked_of v =
    cond v.found (Ok (Some (record { place = v.place; start = v.start; length = v.size })))
    (told_by Asked (λ _. Ok None) (λ r. Err (RefusedAsked r)) (Err BadList) v.head)

asked_told : (e : Asked) → asked_of (ended_verdict e) ≡ e
asked_told (Ok (Some c)) = refl
asked_told (Ok None) = refl
asked_told (Err BadList) = refl
asked_told (Err (RefusedAsked r)) = (told_back Asked (λ _. Ok None) (λ r. Err (RefusedAsked r)) (Err BadList) r).0

pub unique_which : (x : Verdict) → OneValue Found Verdict verdict_of x
unique_which = one_value (λ v. record { ended = asked_of v; key = v.head.key }) (λ f. rw asked_told)

pub unique_exported_which : (x : Told) → OneValue LuossavinFound Told found_reported x
unique_exported_which =
    one_value (λ t. record { answer = host_answer_of t.head; found = t.found; place = t.place; start = t.start; length = t.size })
    (λ r. refl)

-- Plans.
abbrev planned_of : Head → Result ℕ NotDone
planned_of h = told_by (Result ℕ NotDone) Ok (λ r. Err (RefusedPlan r)) (Err NotAccepted) h

planned-told : (e : Result ℕ NotDone) → planned_of (plan_head e) ≡ e
planned-told (Ok n) = refl
planned-told (Err NotAccepted) = refl
planned-told (Err (RefusedPlan r)) = (told_back (Result ℕ NotDone) Ok (λ r. Err (RefusedPlan r)) (Err NotAccepted) r).0

pub unique_by_plan : (x : Outcome) → One ByPlan Outcome planned_outcome x
unique_by_plan = one (λ y. (record { ended = planned_of y.head; key = y.head.key }, y.bytes)) (λ a o. rw planned-told)

pub unique_exported_plan : (x : Handed) → OneValue LuossavinPlanned Handed planned_reported x
unique_exported_plan = one_value (λ h. record { answer = host_answer_of h.head; plan = h.plan }) (λ r. refl)

-- A shelf: what putting, collecting and looking up answer.
abbrev shelf_end : {A : Type 0} → A → (Unshelved → A) → ℕ → A
shelf_end done refused n =
    cond (eqb n 0) done (refused (get_or (BadShelf ∷ NotHigher ∷ NoRoomShelf ∷ NoCurrent ∷ []) (n - 19) BadShelf))

shelf_told : {A : Type 0} (done : A) (refused : Unshelved → A) (e : Unshelved)
    → shelf_end done refused (shelf_number (Some e)) ≡ refused e
shelf_told done refused BadShelf = refl
shelf_told done refused NotHigher = refl
shelf_told done refused NoRoomShelf = refl
shelf_told done refused NoCurrent = refl

abbrev kept_of : ShelfOutcome → Result ℕ NotKept × List ℕ
kept_of y = (shelf_end (Ok y.used) (λ why. Err (record { why = why; used = y.used })) y.number, y.bytes)

kept_told : (k : Result ℕ NotKept) (o : List ℕ) → kept_of (outcome_of k o) ≡ (k, o)
kept_told (Ok n) o = refl
kept_told (Err e) o = rw (shelf_told {A = Result ℕ NotKept} (Ok e.used) (λ why. Err (record { why = why; used = e.used })) e.why)

found_told : (f : Result ShelfFound Unshelved)
    → shelf_end (Ok (record { start = (place_in f).start; length = (place_in f).size })) Err (place_in f).number ≡ f
found_told (Ok f) = refl
found_told (Err e) = shelf_told (Ok (record { start = 0; length = 0 })) Err e

pub unique_kept : (x : ShelfOutcome) → One (Result ℕ NotKept) ShelfOutcome outcome_of x
unique_kept = one kept_of kept_told

pub unique_found : (x : Place) → OneValue (Result ShelfFound Unshelved) Place place_in x
unique_found = one_value (λ p. shelf_end (Ok (record { start = p.start; length = p.size })) Err p.number) found_told

pub unique_exported_shelf : (x : ShelfOutcome) → One LuossavinShelf ShelfOutcome shelf_reported x
unique_exported_shelf = one (λ y. (record { number = y.number; used = y.used }, y.bytes)) (λ r o. refl)

pub unique_exported_shelved : (x : Place) → OneValue LuossavinShelved Place shelved_reported x
unique_exported_shelved = one_value (λ p. record { number = p.number; start = p.start; length = p.size }) (λ r. refl)

-- The writer of a journal.
pub unique_written : (x : Leaves) → One (Result ℕ Unwritten) Leaves (λ r o. record { wrote = r; bytes = o }) x
unique_written = one (λ y. (y.wrote, y.bytes)) (λ r o. refl)
