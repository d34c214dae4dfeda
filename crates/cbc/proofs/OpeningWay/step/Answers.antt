-- `cbc::OpeningWay::step` meets its contract. The cipher under the round keys turned round is decryption (`decrypt-turned`), and the words
-- that it is given and gives are those of sixteen bytes (`decrypted_front`).
use Rattle.cbc.proofs.Names.{List, ◌++◌, ◌∙◌, ◌≡◌, ap, below_each, decrypt-turned, drop, length, rules}
use Rattle.cbc.proofs.Names.{reverse, unwords-front, words, ℕ}
use Rattle.cbc.proofs.InWords.{decrypted_front}
use Rattle.cbc.proofs.OpeningWay.step.Goals as goal

pub returns : goal.returns
returns c =
    let a = c.args in
    let d = a.«data».now in
    let four : length a.s ≡ 4 = search (rules, c.well_formed) in
    let bytes = below_each 256 d (λ i. (c.type_inv.«data» i).fits) in
    let decrypted = decrypted_front (reverse a.back) d a.s c.requires.in_bounds bytes four in
    record {
      result_value = rw c.split_block-2.ensures (unwords-front d c.requires.in_bounds bytes);
      out_after = c.put_block.ensures ∙ rw (c.block_xor.ensures, c.encrypt-p.ensures, c.split_block.ensures)
          (rw (decrypt-turned a.back (words d)) at (ap (λ (l : List ℕ). l ++ drop 16 (a.out.now)) decrypted));
    }
