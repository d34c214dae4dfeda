-- What passed the check.
use Rattle.block.proofs.Base.{sym}
use Rattle.editions.proofs.Passed.{search_passed}
use Rattle.editions.proofs.Candidates.ask.Goals as goal

pub search_under-requires : goal.search_under-requires
search_under-requires c =
    let in_order = search_passed _ _ _ _ _ (sym c.in_ok-check.ensures) in
    record { iv_value = in_order.iv-size; file_value = in_order.content; lengths_value = in_order.short }
