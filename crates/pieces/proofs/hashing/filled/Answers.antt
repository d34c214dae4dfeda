-- `pieces::hashing::filled` meets its contract: both copies and the zeros behind them are the block laid out (`laid_out`).
use Rattle.pieces.proofs.Names.{◌+◌, ◌-◌, ◌≡◌, arith, drop_at, length, length-take-le, rules, take, take_at}
use Rattle.pieces.proofs.Filling.{laid_out}
use Rattle.pieces.proofs.hashing.filled.Goals as goal

pub returns : goal.returns
returns c =
    let a = c.args in
    let sixteen : length a.held ≡ 16 = search rules in
    let front = length-take-le a.p a.held (omega arith) in
    let n = c.min-n.result in
    let k : a.p + n - a.p ≡ n = omega arith in
    rw (c.copy_from_slice-2.ensures.after, c.copy_from_slice.ensures.after)
    (rw (k, take_at (take a.p a.held) _ a.p front, drop_at (take a.p a.held) _ a.p front)
    (laid_out (take a.p a.held) (a.«data».now) a.p n front (omega arith) c.min-n.ensures))
