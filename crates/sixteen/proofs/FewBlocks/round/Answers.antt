-- The three steps, put together.
use Rattle.sixteen.proofs.Names.{◌*◌, arith}
use Rattle.sixteen.proofs.Filling.{round-done}
use Rattle.sixteen.proofs.FewBlocks.round.Goals as goal

pub returns : goal.returns
returns c =
    let a = c.args in
    let k = c.keyed_words in
    let s = c.sub_groups in
    round-done a.self.now.x c.mix.new.x k.new.t s.new.s a.i a.k a.n (16 * a.groups) c.requires.0 (omega arith) k.ensures s.ensures c.mix.ensures
