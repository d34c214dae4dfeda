-- The flow begins at the counter that is jumped to, and from there on gives the stretch.
use Rattle.ranges.proofs.Names.{◌<◌, below_each, get_or, rules, spelled, ℕ}
use Rattle.ranges.proofs.Jumped.{jumped}
use Rattle.ranges.proofs.range.put_stretch.Goals as goal

pub returns : goal.returns
returns c =
    let a = c.args in
    let iv = a.iv.now in
    let small : (i : ℕ) → get_or iv i 0 < 256 = λ i. search rules in
    let is_iv = spelled iv _ c.requires.iv_len small c.split_block.ensures in
    let stretched = jumped a.rk iv (a.«data».now) a.offset c.requires.iv_len (below_each 256 iv small) in
    rw (c.run.ensures.out_after, c.begin-begun.ensures, c.jump-first.ensures, is_iv, stretched)
