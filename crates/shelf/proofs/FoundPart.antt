-- Looking up a job gives its whole current record, byte for byte, as a part of the buffer; of a job that has none, nothing.
use Rattle.shelf.proofs.Names.{AreBytes, InOrder, List, Record, [], ◌++◌, ◌+◌, ◌∙◌, ◌∷◌, ◌≡◌, ◌≤◌, ap, append-nil, arith, by_test}
use Rattle.shelf.proofs.Names.{current_of, drop, drop-append-add, drop-append-le, false, find_call, has_current, is_current_of, le-ltb}
use Rattle.shelf.proofs.Names.{length, length-append, length-drop, looked_up, part_of, place_of, records, refl, size_of, stored, take}
use Rattle.shelf.proofs.Names.{take-append-le, take-append_seam, those, two_current, written, ℕ}
use Rattle.shelf.proofs.Walks.{none-current, alone, two_rest}
use Rattle.shelf.proofs.Sound.{not-bad}
use Rattle.shelf.proofs.Putting.{used-stored}

-- the part that look-up points to lies inside the records as they are stored, and is the current one
abbrev StandsThere : ℕ → List Record → Type 0
StandsThere job rs =
    (place_of job rs + size_of job rs ≤ length (stored rs))
    × (take (size_of job rs) (drop (place_of job rs) (stored rs)) ≡ stored (current_of job rs))

pub stored-part : (job : ℕ) (rs : List Record) → two_current rs ≡ false → StandsThere job rs
unfolding place_of stored those
stored-part job [] f = (omega arith, refl)
stored-part job (r ∷ rs) f =
    let n = length-append (written r) (stored rs) in
    let more = stored-part job rs (two_rest r rs f) in
    by_test (is_current_of job r)
    (λ e.
    let whole : stored (r ∷ current_of job rs) ≡ written r = rw (none-current job rs (alone job r rs f e)) (append-nil (written r)) in
    rw (e, whole) (omega arith, take-append_seam (written r) (stored rs)))
    (λ e. rw e (omega arith, rw drop-append-add more.1))

-- where the used bytes are the records
pub look_up_in : (shelf : List ℕ) (used : ℕ) → InOrder shelf used → (job : ℕ)
    → shelf ≡ stored (records (take used shelf)) ++ drop used shelf
    → looked_up shelf used job ≡ stored (current_of job (records (take used shelf)))
unfolding find_call part_of stored
look_up_in shelf used order job whole =
    let rs = records (take used shelf) in
    let n = place_of job rs in
    let m = size_of job rs in
    let inside = stored-part job rs order.single in
    let first : n ≤ length (stored rs) = omega arith in
    let last : m ≤ length (drop n (stored rs)) = rw length-drop (omega arith) in
    -- the same part, in the buffer
    let there : take m (drop n shelf) ≡ stored (current_of job rs) =
    ap (λ (l : List ℕ). take m (drop n l)) whole
    ∙ rw (drop-append-le n (stored rs) (drop used shelf), take-append-le m (drop n (stored rs)) (drop used shelf)) inside.1 in
    by_test (has_current job rs) (λ e. rw (not-bad shelf used order, e, le-ltb (length shelf) (n + m) (omega arith)) there)
    (λ e. rw (not-bad shelf used order, e, le-ltb (length shelf) (0 + 0) (omega arith), none-current job rs e))

pub look_up : (shelf : List ℕ) (used : ℕ) → AreBytes shelf → InOrder shelf used → (job : ℕ)
    → looked_up shelf used job ≡ stored (current_of job (records (take used shelf)))
look_up shelf used small order job = look_up_in shelf used order job (used-stored shelf used small order)
