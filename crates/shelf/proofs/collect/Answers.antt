-- Refused, or what `keep` leaves.
use Rattle.shelf.proofs.Names.{collect_call}
use Rattle.shelf.proofs.Sound.{in_order, passed, refused}
use Rattle.std.proofs.lemmas.Result.{err_from_is_err_and}
use Rattle.shelf.proofs.collect.Goals as goal

pub returns-in_err-check : goal.returns-in_err-check
unfolding collect_call
returns-in_err-check c =
    let p = err_from_is_err_and c.from_residual.result c.from_residual.ensures.1 in
    let r = refused _ _ c.in_err-check.ensures in rw (p.1, p.2, r.0, r.1)

pub keep-requires : goal.keep-requires
keep-requires c = (in_order _ _ (passed _ _ c.in_ok-check.ensures)).within

pub returns : goal.returns
unfolding collect_call
returns c = rw (passed _ _ c.in_ok-check.ensures, c.keep.ensures.value, c.keep.ensures.shelf_after)
