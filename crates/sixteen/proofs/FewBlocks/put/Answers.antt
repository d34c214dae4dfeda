-- One block more stands in its place.
use Rattle.sixteen.proofs.Names.{◌≡◌, length, rules}
use Rattle.sixteen.proofs.Blocks.{held_next}
use Rattle.sixteen.proofs.FewBlocks.put.Goals as goal

pub returns : goal.returns
returns c =
    let a = c.args in
    let n : length a.w ≡ 4 = search rules in
    let l : length a.self.now.x ≡ 256 = search rules in
    λ f H e. held_next f a.i a.w a.self.now.x c.requires l n e H
