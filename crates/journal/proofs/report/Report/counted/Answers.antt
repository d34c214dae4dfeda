-- Field by field. No sum wraps, since every count is at most the place.
use Rattle.journal.proofs.Names.{Bool, Difference, None, Option, Some, ap, arith, below_at, counted, first_of, one_more, refl, suc, sym, true, ◌∙◌, ◌≡◌, ℕ}
use Rattle.std.specs.Option.{option_or}
use Rattle.journal.proofs.Counting.{same_first, same-report}
use Rattle.journal.proofs.report.Report.counted.Goals as goal

-- the first that differs is told
told_first : (d : Option Difference) (n place : ℕ)
    → option_or d (Some (record { index = n; place = place })) ≡ first_of true n place d
told_first (Some d) n place = refl
told_first None n place = refl

pub overflow_add-report-3 : goal.overflow_add-report-3
overflow_add-report-3 c =
    let small = below_at (suc c.args.place) c.args.self.by_answer (omega arith) c.requires.within.by_answer c.args.x.number in
    omega arith

pub returns-then-x : goal.returns-then-x
unfolding counted
returns-then-x c =
    let r = c.args.self in
    same-report refl (ap (λ (i : ℕ). one_more i r.by_mode) c.mode_place.ensures.value) refl refl refl
    (c.or-report.ensures ∙ told_first _ _ _ ∙ ap (λ (t : Bool). first_of t r.records c.args.place r.first) (sym c.if-x.true))

pub returns-else-x : goal.returns-else-x
unfolding counted
returns-else-x c =
    let r = c.args.self in
    same-report refl (ap (λ (i : ℕ). one_more i r.by_mode) c.mode_place.ensures.value) refl refl refl
    (sym (same_first r.records c.args.place r.first) ∙ ap (λ (t : Bool). first_of t r.records c.args.place r.first) (sym c.if-x.false))
