-- Of IV and data together it is the block that ends where place `at` of the data begins.
use Rattle.sixteen.proofs.Names.{◌<◌, ◌≡◌, arith, below_each, get_or, length-unwords, sym, take_at, unwords, ℕ}
use Rattle.sixteen.proofs.Before.{before-words}
use Rattle.sixteen.proofs.block_before.Goals as goal

pub returns-then-at-eq0 : goal.returns-then-at-eq0
returns-then-at-eq0 c =
    let a = c.args in
    let e : a.at ≡ 0 = omega arith in
    rw e (sym (take_at (unwords a.iv) (a.«data».now) 16 (length-unwords a.iv)))

pub returns : goal.returns
returns c =
    let a = c.args in
    let d = a.«data».now in
    let small : (i : ℕ) → get_or d i 0 < 256 = λ i. omega (arith, c.type_inv.«data» i) in
    before-words (unwords a.iv) d c.split_block.result a.at (length-unwords a.iv) (below_each 256 d small)
    (omega arith) c.requires.0 c.split_block.ensures
