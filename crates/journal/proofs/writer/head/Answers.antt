-- The key's number is its two bytes.
use Rattle.journal.proofs.Names.{bytes_of, head}
use Rattle.std.proofs.Math.Nat.{div-one}
use Rattle.journal.proofs.writer.head.Goals as goal

pub returns : goal.returns
unfolding head bytes_of
returns c = rw (c.to_be_bytes-key.ensures, c.direction_byte.ensures, div-one)
