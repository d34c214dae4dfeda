-- Halves of blocks transposed and parted are lanes, since transposing them once more gives the halves back.
use Rattle.sliced.proofs.Halves.{turned_back, halved, parted}
use Rattle.sliced.proofs.enter.Goals as goal

pub returns : goal.returns
returns c =
    let P = parted c.transpose.new.a _ _ c.copy_from_slice-2.ensures.after c.copy_from_slice.ensures.after in
    halved _ _ _ _ (turned_back _ _ c.transpose.ensures.0) P
