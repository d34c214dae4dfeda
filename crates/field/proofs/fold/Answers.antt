-- It is the sum of four shifts of z, in two words (`fold_law`).
use Rattle.field.proofs.Names.{arith}
use Rattle.field.proofs.Reduction.{fold_law}
use Rattle.field.proofs.fold.Goals as goal

pub returns : goal.returns
returns c = fold_law c.args.z (omega arith)
