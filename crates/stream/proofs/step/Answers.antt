-- `stream::step` meets its contract. The words that are ciphered, read and xored are those of sixteen bytes (`unwords-front`,
-- `encrypt-unwords`, `front-xored`), so what is written and the next state are the definition's.
use Rattle.stream.proofs.Names.{Fits, ◌^◌, ◌∙◌, ◌≡◌, below_each, encrypt-four, encrypt-unwords, encrypt_words}
use Rattle.stream.proofs.Names.{front-xored, get_or, length, rules, unwords-front, w32, ℕ}
use Rattle.stream.proofs.step.Goals as goal

pub returns : goal.returns
returns c =
    let a = c.args in
    let d = a.«data».now in
    let four : length a.s ≡ 4 = search (rules, c.well_formed) in
    let fits : (i : ℕ) → Fits w32 (get_or a.s i 0) = λ i. search (rules, c.well_formed) in
    let bytes = below_each 256 d (λ i. (c.type_inv.«data» i).fits) in
    let read = unwords-front d c.requires.in_bounds bytes in
    let ciphered = encrypt-unwords a.rk a.s four (below_each (2 ^ 32) a.s (λ i. (fits i).fits)) in
    let xored = rw ciphered at (front-xored d (encrypt_words a.rk a.s) c.requires.in_bounds bytes (encrypt-four a.rk a.s)) in
    let x = c.block_xor-c.ensures in
    let b = c.split_block-b.ensures in
    let e = c.encrypt-e.ensures in
    record {
      result_value = c.state_after.ensures ∙ rw (x, b, e, read, ciphered, xored);
      out_after = c.put_block.ensures ∙ rw (x, b, e, xored);
    }
