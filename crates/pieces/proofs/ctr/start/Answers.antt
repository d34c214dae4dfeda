-- `pieces::ctr::start` meets its contract: what the checks refuse is refused, and otherwise the IV is the first counter.
use Rattle.pieces.proofs.Names.{CtrCounting, ◌∙◌, ◌≡◌, arith, ctr_after, ctr_start, key-and-iv_passed, length, sixteen}
use Rattle.pieces.proofs.Names.{spelled, sym}
use Rattle.pieces.proofs.KeyStream.{flow_start}
use Rattle.pieces.proofs.ctr.start.Goals as goal

pub split_block-requires : goal.split_block-requires
split_block-requires c =
    let n : length c.args.iv.now ≡ 16 =
    sixteen _ (key-and-iv_passed _ _ _ _ _ (sym c.key_and_iv-checked.ensures ∙ c.in_default.is)).iv-size in
    omega arith

pub returns : goal.returns
unfolding ctr_start ctr_after
returns c =
    let a = c.args in
    let iv = a.iv.now in
    let passed : length iv ≡ 16 =
    sixteen _ (key-and-iv_passed _ _ _ _ _ (sym c.key_and_iv-checked.ensures ∙ c.in_default.is)).iv-size in
    let counter = spelled iv _ passed (λ i. (c.type_inv.iv i).fits) c.split_block.ensures in
    rw (← c.key_and_iv-checked.ensures, c.in_default.is, c.done.ensures, c.begin-flow.ensures, counter)
    (rw (← flow_start CtrCounting a.cipher.rk iv, c.number_in-key.ensures))
