-- The room's four bytes, and the number.
use Rattle.journal.proofs.Names.{bytes_of, middle}
use Rattle.std.proofs.Math.Nat.{div-one}
use Rattle.journal.proofs.writer.middle.Goals as goal

pub returns : goal.returns
unfolding middle bytes_of
returns c = rw (c.to_be_bytes-room.ensures, div-one)
