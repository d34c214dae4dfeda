-- What is behind the record leaves its size.
use Rattle.journal.proofs.Names.{Some, ap, arith, length}
use Rattle.journal.proofs.Standing.{size-rest, starts}
use Rattle.journal.proofs.records.measure.Goals as goal

pub overflow_sub-result : goal.overflow_sub-result
overflow_sub-result c =
    let read = c.in_ok-rest.ensures in
    omega (arith, ap length read.rest, size-rest _ read.stands)

pub returns : goal.returns
returns c =
    let read = c.in_ok-rest.ensures in
    rw (starts _ read.stands) (ap Some (omega (arith, ap length read.rest, size-rest _ read.stands)))
