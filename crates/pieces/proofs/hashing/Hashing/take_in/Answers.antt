-- `pieces::hashing::Hashing::take_in` meets its contract. Where the text does not fill the begun block, all is held (`held_within`);
-- where it does, the first block and what is behind it are what was held and the text (`filled_full`).
use Rattle.pieces.proofs.Names.{◌++◌, ◌-◌, ◌<◌, ◌≡◌, arith, hash_next, length, length-append, length-take-le, rules, tail_is, take}
use Rattle.pieces.proofs.Filling.{filled_full}
use Rattle.pieces.proofs.Fitting.{Sixteen, are_bytes}
use Rattle.pieces.proofs.HashOn.{held_within}
use Rattle.pieces.proofs.hashing.Hashing.take_in.Goals as goal

pub returns-then-data-m : goal.returns-then-data-m
unfolding hash_next
returns-then-data-m c =
    let a = c.args in
    let n : length a.self.held ≡ 16 = search rules in
    let y : Sixteen a.self.y = (search rules, λ i. search rules) in
    let p = length-take-le a.p a.self.held (omega arith) in
    let low : length (take a.p a.self.held ++ a.«data».now) < 16 = rw length-append (omega arith) in
    rw c.filled-held.ensures (held_within _ _ _ low y.0 (are_bytes a.self.y y))

pub returns : goal.returns
unfolding hash_next
returns c =
    let a = c.args in
    let n : length a.self.held ≡ 16 = search rules in
    let d = a.«data».now in
    let p = length-take-le a.p a.self.held (omega arith) in
    rw (c.full_blocks.ensures, tail_is d (16 - a.p), c.filled-held.ensures, filled_full _ d a.p p (omega arith) (omega arith))
