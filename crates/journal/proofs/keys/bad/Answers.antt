-- Each return is by the test that led there.
use Rattle.journal.proofs.Names.{◌∙◌, bad_keys, le-ltb, lt-ltb}
use Rattle.journal.proofs.KeyTurns.{retired-any}
use Rattle.journal.proofs.keys.bad.Goals as goal

pub returns-then-keys-gt-MOST : goal.returns-then-keys-gt-MOST
unfolding bad_keys
returns-then-keys-gt-MOST c = rw (lt-ltb _ _ c.if-keys-gt-MOST.true)

pub returns-then-any_retired : goal.returns-then-any_retired
unfolding bad_keys
returns-then-any_retired c =
    c.if-any_retired.true
    ∙ rw (le-ltb _ _ c.if-keys-gt-MOST.false, retired-any, ← c.if-any_retired.ensures)

pub returns-else-any_retired : goal.returns-else-any_retired
unfolding bad_keys
returns-else-any_retired c =
    c.number_twice.ensures
    ∙ rw (le-ltb _ _ c.if-keys-gt-MOST.false, retired-any, ← c.if-any_retired.ensures)
