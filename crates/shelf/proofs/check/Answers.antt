-- What is in order up to the used count is the definition's last two tests.
use Rattle.shelf.proofs.Names.{◌∙◌, bad_shelf, eq-eqb, le-ltb, lt-ltb, ne_eqb, sym}
use Rattle.shelf.proofs.Sound.{bad-records}
use Rattle.shelf.proofs.check.Goals as goal
use Rattle.shelf.proofs.check.Goals.{then-shelf-gt-MOST-via-then-shelf-gt-MOST, then-shelf-gt-MOST-via-else-shelf-gt-MOST+then-used-shelf}
use Rattle.shelf.proofs.check.Goals.{then-shelf-gt-MOST-via-else-shelf-gt-MOST+else-used-shelf+then-sound_up_to-used}

pub returns-then-shelf-gt-MOST : goal.returns-then-shelf-gt-MOST
returns-then-shelf-gt-MOST c =
    elim c.then-shelf-gt-MOST.branch [
      | then-shelf-gt-MOST-via-then-shelf-gt-MOST w ↦ unfold bad_shelf in rw (lt-ltb _ _ w.if-shelf-gt-MOST.true)
      | then-shelf-gt-MOST-via-else-shelf-gt-MOST+then-used-shelf w ↦
          unfold bad_shelf in rw (le-ltb _ _ w.if-shelf-gt-MOST.false, lt-ltb _ _ w.if-used-shelf.true)
      | then-shelf-gt-MOST-via-else-shelf-gt-MOST+else-used-shelf+then-sound_up_to-used w ↦
          rw (
            ← bad-records _ _ w.if-shelf-gt-MOST.false w.if-used-shelf.false,
            ne_eqb _ _ (λ e. w.if-sound_up_to-used.true (w.sound_up_to.ensures ∙ e)),
          )
    ]

pub returns : goal.returns
returns c =
    rw (
      ← bad-records _ _ c.if-shelf-gt-MOST.false c.if-used-shelf.false,
      eq-eqb _ _ (sym c.sound_up_to.ensures ∙ c.if-sound_up_to-used.false),
    )
