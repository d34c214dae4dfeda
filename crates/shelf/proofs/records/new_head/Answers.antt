-- The label's bytes, and the length's.
use Rattle.block.proofs.Convert.{library_bytes}
use Rattle.shelf.proofs.Names.{bytes_of, label_of}
use Rattle.shelf.proofs.records.new_head.Goals as goal

pub returns : goal.returns
unfolding label_of bytes_of
returns c =
    rw (c.copy_from_slice.ensures.after, c.copy_from_slice-2.ensures.after, c.to_be_bytes.ensures, c.label.ensures)
    (rw (← library_bytes 4 c.args.n))
