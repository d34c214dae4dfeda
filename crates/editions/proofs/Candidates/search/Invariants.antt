-- The lengths to come add up to what is left of the buffer, none of them is past the limit, and the search among them decides.
use Rattle.block.proofs.Base.{◌+◌, ◌≡◌, drop, false, length}
use Rattle.block.specs.Wide.{value}
use Rattle.block.specs.Words.{unwords}
use Rattle.editions.specs.Candidates.{sum, any_too_long}
use Rattle.editions.specs.Which.{first_opening, opens_masked}
use Rattle.editions.proofs.Candidates.search.Given as goal

abbrev pub invariant-loop-place : goal.invariant-loop-place
invariant-loop-place l =
    let test = opens_masked (unwords l.mask) (value l.h) l.file in
    let labels = l.self.labels.now in
    let lengths = l.self.lengths.now in
    record {
      left : l.start + sum (drop l.place lengths) ≡ length labels;
      short : any_too_long (drop l.place lengths) ≡ false;
      first : first_opening test (drop l.start labels) (drop l.place lengths) l.place l.start ≡ first_opening test labels lengths 0 0;
    }
