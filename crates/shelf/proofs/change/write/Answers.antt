-- The head, and behind it the sealed bytes.
use Rattle.shelf.proofs.Names.{◌∙◌}
use Rattle.shelf.proofs.Putting.{record_written}
use Rattle.shelf.proofs.change.write.Goals as goal

pub returns : goal.returns
returns c =
    record_written _ _ _ _ _ _ (c.copy_from_slice.ensures.after ∙ c.new_head-head.ensures) c.copy_from_slice-2.ensures.after
