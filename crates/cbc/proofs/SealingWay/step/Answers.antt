-- `cbc::SealingWay::step` meets its contract: the words that are xored and ciphered are those of sixteen bytes (`encrypted_front`).
use Rattle.cbc.proofs.Names.{Fits, ◌^◌, ◌∙◌, ◌≡◌, below_each, get_or, length, rules, w32, ℕ}
use Rattle.cbc.proofs.InWords.{encrypted_front}
use Rattle.cbc.proofs.SealingWay.step.Goals as goal

pub returns : goal.returns
returns c =
    let a = c.args in
    let d = a.«data».now in
    let four : length a.s ≡ 4 = search (rules, c.well_formed) in
    let fits : (i : ℕ) → Fits w32 (get_or a.s i 0) = λ i. search (rules, c.well_formed) in
    let encrypted = encrypted_front a.rk d a.s c.requires.in_bounds (below_each 256 d (λ i. (c.type_inv.«data» i).fits)) four
    (below_each (2 ^ 32) a.s (λ i. (fits i).fits)) in
    record {
      result_value = rw (c.encrypt-e.ensures, c.block_xor.ensures, c.split_block.ensures) encrypted;
      out_after = c.put_block.ensures ∙ rw (c.encrypt-e.ensures, c.block_xor.ensures, c.split_block.ensures, encrypted);
    }
