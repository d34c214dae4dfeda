-- The loop's invariant: the key that is sought is found among those to come.
use Rattle.journal.proofs.Names.{◌≡◌, drop, key_found}
use Rattle.journal.proofs.keys.find.Given as goal

abbrev pub invariant-loop-key : goal.invariant-loop-key
invariant-loop-key l = key_found l.number (drop l.key-index l.keys) ≡ key_found l.number l.keys
