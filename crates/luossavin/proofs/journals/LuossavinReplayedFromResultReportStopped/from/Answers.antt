-- Field by field, by how it ended.
use Rattle.std.specs.Prelude.{is_some}
use Rattle.luossavin.specs.Journals.{told_of}
use Rattle.luossavin.proofs.Marks.{mark_byte}
use Rattle.luossavin.proofs.journals.LuossavinReplayedFromResultReportStopped.from.Goals as goal
use Rattle.luossavin.proofs.journals.LuossavinReplayedFromResultReportStopped.from.Goals.{in-Ok, in-Err}

pub returns : goal.returns
unfolding told_of
returns c =
    rw (c.number.ensures, c.is_some.ensures, mark_byte (is_some c.match-replayed.place.1.first), c.unwrap_or-first.ensures)
    (elim c.match-replayed.branch [ in-Ok w ↦ rw (w.replayed-is, w.place-is, w.in-Ok.is) | in-Err w ↦ rw (w.replayed-is, w.place-is, w.in-Err.is) ])
