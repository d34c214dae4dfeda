-- `label` meets its contract: the bytes that `to_be_bytes` takes out of job and edition are those of the definition (`library_bytes`).
use Rattle.block.proofs.Base.{refl}
use Rattle.block.proofs.Convert.{library_bytes}
use Rattle.label.specs.Label.{label_of}
use Rattle.label.proofs.label.Goals as goal

pub returns : goal.returns
unfolding label_of
returns c =
    rw (c.to_be_bytes.ensures, c.to_be_bytes-2.ensures, ← library_bytes 4 c.args.job, ← library_bytes 2 c.args.edition) refl
