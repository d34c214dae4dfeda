-- `pieces::hashing::Hashing::full_blocks` meets its contract: the block, and then the full blocks behind it, are those of both joined
-- (`full_first`), and what is held is what is begun behind them (`begun-behind`).
use Rattle.pieces.proofs.Names.{◌%◌, ◌*◌, ◌-◌, ◌/◌, ◌≡◌, absorbed_both, arith, hash_after, length, rules, tail_is}
use Rattle.pieces.proofs.Begun.{begun-behind}
use Rattle.pieces.proofs.HashOn.{full_first}
use Rattle.pieces.proofs.hashing.Hashing.full_blocks.Goals as goal

pub returns : goal.returns
unfolding hash_after
returns c =
    let n : length c.args.self.held ≡ 16 = search rules in
    let d = c.args.rest.now in
    let k = length d - length d % 16 in
    let cut : k ≡ 16 * (length d / 16) = omega arith in
    let hashed = (absorbed_both _ _ _ _ _ c.absorb_all-first.ensures c.absorb_all-all.ensures).hash in
    rw (c.bytes_of.ensures, hashed, c.filled.ensures, tail_is d k, cut, full_first _ d n)
    (rw (begun-behind _ d 1 n, c.ghash.ensures.h_value, c.ghash.ensures.y_value))
