-- `stream::xor_rest` meets its contract: the pad is the cipher of the state, and where it is not needed nothing is written.
use Rattle.stream.proofs.Names.{Fits, ◌^◌, ◌∙◌, ◌≡◌, below_each, encrypt-unwords, encrypt_block, get_or, length, rules, unwords, w32, ℕ}
use Rattle.stream.proofs.xor_rest.Goals as goal

pub returns : goal.returns
returns c =
    let a = c.args in
    let four : length a.s ≡ 4 = search (rules, c.well_formed) in
    let fits : (i : ℕ) → Fits w32 (get_or a.s i 0) = λ i. search (rules, c.well_formed) in
    let ciphered = encrypt-unwords a.rk a.s four (below_each (2 ^ 32) a.s (λ i. (fits i).fits)) in
    let pad : c.combine_block-pad.result ≡ encrypt_block a.rk (unwords a.s) =
    c.combine_block-pad.ensures ∙ rw (c.encrypt.ensures, ciphered) in
    record { value = λ e. pad; out_after = rw pad at c.xor_bytes.ensures }
