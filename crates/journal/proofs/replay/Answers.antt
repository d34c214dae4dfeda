-- Each turn counts the record in front, and the first that is refused ends the replay.
use Rattle.journal.proofs.Names.{Err, List, Ok, Report, Result, Sm4Cipher, Stopped, Within, ◌+◌, ◌-◌, ◌<◌, ◌∙◌, ◌≡◌, ◌≤◌, ap, arith, drop}
use Rattle.journal.proofs.Names.{eqb-false, eqb-true, length, length-drop, replay, replay_from, replay_one, size_at, sym, ℕ}
use Rattle.std.specs.Result.{IsErr, IsErrAnd}
use Rattle.journal.proofs.Standing.{stands, size-within, data-within}
use Rattle.journal.proofs.KeyTurns.{few-keys}
use Rattle.journal.proofs.Counting.{within-nothing}
use Rattle.journal.proofs.Replaying.{from_end, from_stopped, from_start, turn_from, turn_passes, turn_within}
use Rattle.journal.proofs.replay.Goals as goal

-- an error is passed on
passed_on : {A : Type 0} (r : Result A Stopped) (x : Stopped) → IsErr r → IsErrAnd r (λ e. e ≡ x) → r ≡ Err x
passed_on (Err e) x i p = ap Err p
passed_on (Ok a) x i p = absurd p

-- a turn in a journal of j bytes: of those from b on, those from t on are left
module _ (ks : List Sm4Cipher) (j : ℕ) (b t : List ℕ) (r more : Report) (h : length b ≤ j)
    (e : replay_one ks b (j - length b) r ≡ Ok more) (f : t ≡ drop (size_at b) b) where
  size : (0 < size_at b) × (size_at b ≤ length b)
  size =
      let s = stands b (turn_passes ks b (j - length b) r more e).0 in
      omega (arith, data-within b s, size-within b s)

  left : length t + size_at b ≡ length b
  left = omega (arith, size, ap length f, length-drop (size_at b) b)

  place : j - length t ≡ j - length b + size_at b
  place = omega (arith, left, size)

  less : length t < length b
  less = omega (arith, left, size)

  within : Within (j - length b) r → Within (j - length t) more
  within w = rw place (turn_within ks b (j - length b) r more e w)

  same : replay_from ks t (j - length t) more ≡ replay_from ks b (j - length b) r
  same = rw (place, f) (turn_from ks b (j - length b) r more e)

pub returns-then-bad : goal.returns-then-bad
unfolding replay
returns-then-bad c = rw (sym c.bad.ensures ∙ c.if-bad.true, c.nothing-report.ensures)

pub shared_ref_as_front-lent : goal.shared_ref_as_front-lent
shared_ref_as_front-lent c = few-keys _ (sym c.bad.ensures ∙ c.if-bad.false)

pub loop-lent-init : goal.loop-lent-init
loop-lent-init c =
    let n = length c.args.journal.now in
    let z : n - n ≡ 0 = omega arith in
    let report = c.nothing-report.ensures in
    record {
      inside = omega arith;
      within = rw (z, report) within-nothing;
      same = rw (z, report) (sym (from_start c.args.keys c.args.journal.now (sym c.bad.ensures ∙ c.if-bad.false)));
    }

pub returns-in_err-report : goal.returns-in_err-report
returns-in_err-report c =
    let (i, p) = c.from_residual.ensures in
    let some = eqb-false (length c.loop-lent.rest.now) 0 (sym c.loop-lent-test.ensures) in
    passed_on _ _ i p ∙ sym (from_stopped _ _ _ _ (omega arith) _ c.in_err-report.ensures) ∙ c.loop-lent.invariant.same

pub loop-lent-smaller : goal.loop-lent-smaller
loop-lent-smaller c =
    let turn = c.in_ok-report.ensures in less _ _ _ _ _ _ c.loop-lent.invariant.inside turn.counted turn.rest

pub loop-lent-preserved : goal.loop-lent-preserved
loop-lent-preserved c =
    let so_far = c.loop-lent.invariant in
    let turn = c.in_ok-report.ensures in
    let l = less _ _ _ _ _ _ so_far.inside turn.counted turn.rest in
    record {
      inside = omega arith;
      within = within _ _ _ _ _ _ so_far.inside turn.counted turn.rest so_far.within;
      same = same _ _ _ _ _ _ so_far.inside turn.counted turn.rest ∙ so_far.same;
    }

pub returns : goal.returns
returns c =
    sym (from_end _ _ _ _ (eqb-true (length c.loop-lent.rest.now) 0 (sym c.loop-lent-test.ensures))) ∙ c.loop-lent.invariant.same
