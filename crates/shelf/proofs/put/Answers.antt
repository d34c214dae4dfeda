-- Each refusal is the definition's, and where none is left, room is made and the record written there.
use Rattle.shelf.proofs.Names.{Bool, InOrder, List, None, Option, Record, Some, ◌+◌, ◌∙◌, ◌≡◌, ◌≤◌, ap, arith, by_test, collected, cond}
use Rattle.shelf.proofs.Names.{false, length, length_tailed, length-take-le, ltb, new_record, not_higher, put_call, put_in, records, refl}
use Rattle.shelf.proofs.Names.{stays, stored, sym, take, those, true, ℕ}
use Rattle.shelf.proofs.Sound.{in_order, passed, refused}
use Rattle.shelf.proofs.Putting.{Made, length-current, made_used, made_room, made_bytes}
use Rattle.std.proofs.lemmas.Result.{err_from_is_err_and}
use Rattle.shelf.proofs.put.Goals as goal
use Rattle.shelf.proofs.put.Goals.{After-make_room-at}

pub returns-in_err-check : goal.returns-in_err-check
unfolding put_call
returns-in_err-check c =
    let p = err_from_is_err_and c.from_residual.result c.from_residual.ensures.1 in
    let r = refused _ _ c.in_err-check.ensures in rw (p.1, p.2, r.0, r.1)

pub slice_bounds-kept_beside-end : goal.slice_bounds-kept_beside-end
slice_bounds-kept_beside-end c = (in_order _ _ (passed _ _ c.in_ok-check.ensures)).within

pub slice_bounds-kept_beside-end-2 : goal.slice_bounds-kept_beside-end-2
slice_bounds-kept_beside-end-2 c = sym (length-take-le _ _ (in_order _ _ (passed _ _ c.in_ok-check.ensures)).within)

-- the walk told of an edition that is not lower, or how many bytes are kept
none_kept : (b : Bool) (n : ℕ) → None ≡ cond b None (Some n) → b ≡ true
none_kept b n e = by_test b (λ t. t) (λ f. let z : ◌≡◌ {A = Option ℕ} None (Some n) = rw f at e in absurd cc)

some_kept : (b : Bool) (n k : ℕ) → Some k ≡ cond b None (Some n) → (b ≡ false) × (k ≡ n)
some_kept b n k e =
    by_test b (λ t. let z : ◌≡◌ {A = Option ℕ} (Some k) None = rw t at e in absurd cc)
    (λ f. let z : ◌≡◌ {A = Option ℕ} (Some k) (Some n) = rw f at e in (f, cc))

pub returns-in_default : goal.returns-in_default
unfolding put_call
returns-in_default c =
    rw (passed _ _ c.in_ok-check.ensures, none_kept _ _ (sym c.in_default.is ∙ c.kept_beside.ensures))

pub short-requires : goal.short-requires
short-requires c = (in_order _ _ (passed _ _ c.in_ok-check.ensures)).size

-- whether there is no room, for all that is current after the put
no_room : (shelf sealed : List ℕ) (used job edition kept : ℕ) {r : Bool} → InOrder shelf used
    → kept ≡ length (stored (those (stays (Some job)) (records (take used shelf)))) → r ≡ ltb (length shelf) (kept + (12 + length sealed))
    → r ≡ ltb (length shelf) (length (stored (collected (put_in shelf used job edition sealed))))
no_room shelf sealed used job edition kept order told e =
    e ∙ ap (ltb (length shelf)) (length-current _ _ order (new_record job edition sealed) refl told)

pub returns-then-short : goal.returns-then-short
unfolding put_call
returns-then-short c =
    let good = passed _ _ c.in_ok-check.ensures in
    let told = some_kept _ _ _ (sym c.in-Some.is ∙ c.kept_beside.ensures) in
    rw (
      good,
      told.0,
      sym (no_room _ c.args.sealed.now _ _ c.args.edition _ (in_order _ _ good) told.1 c.short.ensures) ∙ c.if-short.true,
    )

pub make_room-at-requires : goal.make_room-at-requires
make_room-at-requires c = in_order _ _ (passed _ _ c.in_ok-check.ensures)

-- what was made, where the new record finds room
module _ (x : After-make_room-at) where
  abbrev new : Record
  new = new_record x.args.job x.args.edition (x.args.sealed.now)

  order : InOrder (x.args.shelf.now) x.args.used
  order = in_order _ _ (passed _ _ x.in_ok-check.ensures)

  told : (not_higher x.args.job x.args.edition (records (take x.args.used (x.args.shelf.now))) ≡ false)
      × (x.in-Some.kept ≡ length (stored (those (stays (Some x.args.job)) (records (take x.args.used (x.args.shelf.now))))))
  told = some_kept _ _ _ (sym x.in-Some.is ∙ x.kept_beside.ensures)

  full : ltb (length (x.args.shelf.now))
      (length (stored (collected (put_in (x.args.shelf.now) x.args.used x.args.job x.args.edition (x.args.sealed.now)))))
      ≡ false
  full = sym (no_room _ _ _ _ _ _ order told.1 x.short.ensures) ∙ x.if-short.false

  made : Made _ _ order (length (x.args.sealed.now)) x.args.job x.make_room-at.result x.make_room-at.new.shelf
  made = (x.make_room-at.ensures.value, x.make_room-at.ensures.shelf_after)

  room : (x.make_room-at.result + (12 + length (x.args.sealed.now)) ≤ length x.make_room-at.new.shelf)
      × (length x.make_room-at.new.shelf ≡ length (x.args.shelf.now))
      × (length (x.args.shelf.now) ≤ 65536)
  room = made_room _ _ order new refl made full

pub write-requires-clause-sealed_in_bounds : goal.write-requires-clause-sealed_in_bounds
write-requires-clause-sealed_in_bounds c =
    let x = (goal.at.write-requires-clause-sealed_in_bounds c).After-make_room-at in
    omega (arith, room x, length_tailed x.make_room-at.new.shelf x.make_room-at.result)

pub write-requires-clause-sealed_len_bound : goal.write-requires-clause-sealed_len_bound
write-requires-clause-sealed_len_bound c =
    omega (arith, room (goal.at.write-requires-clause-sealed_len_bound c).After-make_room-at)

pub returns : goal.returns
unfolding put_call
returns c =
    let x = (goal.at.returns c).After-make_room-at in
    rw (
      passed _ _ c.in_ok-check.ensures,
      (told x).0,
      full x,
      made_used _ _ (order x) (new x) refl (made x),
      made_bytes _ _ (order x) (new x) refl (made x) c.write.ensures,
    )
