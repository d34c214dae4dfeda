-- `pieces::tagging::begin` meets its contract: J0's last word is the number in its last four bytes.
use Rattle.pieces.proofs.Names.{Fits, get_or, last-four, rules, w32}
use Rattle.pieces.proofs.tagging.begin.Goals as goal

pub returns-clause-low_value : goal.returns-clause-low_value
returns-clause-low_value c =
    let w = c.first_counter-j0.result in
    let word : Fits w32 (get_or w 3 0) = search rules in
    rw (← last-four w word.fits, c.first_counter-j0.ensures, c.hash_key-h.ensures)
