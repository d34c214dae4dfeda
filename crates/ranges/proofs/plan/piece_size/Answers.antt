-- Both divisions round up.
use Rattle.ranges.proofs.Names.{arith, blocks_of, piece_size}
use Rattle.ranges.proofs.Sharing.{rounded_up}
use Rattle.ranges.proofs.plan.piece_size.Goals as goal

pub returns : goal.returns
unfolding piece_size
returns c =
    rw (
      c.div_ceil-2.ensures,
      c.div_ceil.ensures,
      rounded_up c.args.n 16 (omega arith),
      rounded_up (blocks_of c.args.n) c.args.workers c.requires.le_workers,
    )
