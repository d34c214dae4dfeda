-- `pieces::opens::Opens::end` meets its contract: what the checks refuse leaves the state, and otherwise the tag decides and the
-- state is shut.
use Rattle.pieces.proofs.Names.{sym}
use Rattle.pieces.proofs.Passing.{both_hashable, tagged_passed}
use Rattle.pieces.proofs.opens.Opens.end.Goals as goal

pub end-hash-requires-clause-hashable : goal.end-hash-requires-clause-hashable
end-hash-requires-clause-hashable c = both_hashable (tagged_passed _ _ _ _ (sym c.in_default.ensures)).0

pub same_tag-requires : goal.same_tag-requires
same_tag-requires c = (tagged_passed _ _ _ _ (sym c.in_default.ensures)).1
