-- `cbc::last_block` meets its contract: the last block of the decrypted text takes the last two blocks alone (`last-words`), and the cipher
-- under the round keys turned round is decryption.
use Rattle.cbc.proofs.Names.{◌-◌, ◌∙◌, ◌≡◌, below_each, decrypt-turned, length, length-unwords, rules}
use Rattle.cbc.proofs.Names.{reverse, tailed, unwords, words}
use Rattle.cbc.proofs.Blocks.{last-words}
use Rattle.cbc.proofs.last_block.Goals as goal

pub returns : goal.returns
returns c =
    let a = c.args in
    let d = a.«data».now in
    let before = c.block_before in
    let four : length before.result ≡ 4 = search (rules, before) in
    let words-of-last = words (tailed (length d - 16) d) in
    c.combine_block.ensures ∙ rw (c.block_xor.ensures, c.encrypt-p.ensures, c.split_block.ensures, ← decrypt-turned a.back words-of-last)
    (last-words (reverse a.back) (unwords a.iv) d before.result (length-unwords a.iv)
    (below_each 256 d (λ i. (c.type_inv.«data» i).fits)) c.requires.in_bounds c.requires.data_len four before.ensures)
