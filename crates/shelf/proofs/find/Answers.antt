-- Refused, or what stands there.
use Rattle.shelf.proofs.Names.{◌∙◌, by_test, find_call, has_current, length-take-le, records, sym, take, zero-add}
use Rattle.shelf.proofs.Sound.{in_order, passed, refused}
use Rattle.shelf.proofs.Putting.{found_at}
use Rattle.shelf.proofs.find.Goals as goal

pub returns-in-Err : goal.returns-in-Err
unfolding find_call
returns-in-Err c = let r = refused _ _ (sym c.in-Err.is ∙ c.check.ensures) in rw (r.0, r.1)

pub slice_bounds-current-end : goal.slice_bounds-current-end
slice_bounds-current-end c =
    sym (length-take-le _ _ (in_order _ _ (passed _ _ (sym c.in_default.is ∙ c.check.ensures))).within)

pub returns : goal.returns
unfolding find_call
returns c =
    let good = passed _ _ (sym c.in_default.is ∙ c.check.ensures) in
    let found = found_at _ _ (in_order _ _ good) c.args.job in
    rw (good, c.ok_or.ensures.value, c.current.ensures, found)
    (by_test (has_current c.args.job (records (take c.args.used c.args.shelf.now))) (λ e. rw (e, zero-add)) (λ e. rw e))
