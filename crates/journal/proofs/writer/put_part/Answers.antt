-- The length, and behind it the part.
use Rattle.journal.proofs.Names.{◌∙◌, length, length-bytes_of, part}
use Rattle.block.proofs.Convert.{library_bytes}
use Rattle.journal.proofs.Writing.{copied_behind}
use Rattle.journal.proofs.writer.put_part.Goals as goal

pub returns : goal.returns
unfolding part
returns c =
    let n = length (c.args.p.now) in
    copied_behind _ _ _ _ _ 4 (c.copy_from_slice.ensures.after ∙ c.to_be_bytes.ensures ∙ library_bytes 4 n) (length-bytes_of 4 n)
    c.copy_from_slice-2.ensures.after
