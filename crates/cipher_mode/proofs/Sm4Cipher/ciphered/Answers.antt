-- `cipher_mode::Sm4Cipher::ciphered` meets its contract: where the check passed, the block was written and is sixteen bytes.
use Rattle.block.proofs.Base.{◌++◌, ◌∙◌, ap, sym, drop, ℕ}
use Rattle.cipher_mode.specs.Calls.{block_of}
use Rattle.cipher_mode.proofs.Passed.{block_passed}
use Rattle.cipher_mode.proofs.Ends.{reached, length-block}
use Rattle.cipher_mode.proofs.Sm4Cipher.ciphered.Goals as goal

pub block-requires-2-clause-block_in_len : goal.block-requires-2-clause-block_in_len
block-requires-2-clause-block_in_len c = (block_passed _ _ _ _ _ (sym c.in_ok-block.ensures)).size

pub block-requires-2-clause-in_bounds : goal.block-requires-2-clause-in_bounds
block-requires-2-clause-in_bounds c = (block_passed _ _ _ _ _ (sym c.in_ok-block.ensures)).enough

pub returns : goal.returns
returns c =
    let a = c.args in
    let n = length-block a.direction a.self.rk (a.block_in.now) in
    let b = block_of a.direction a.self.rk (a.block_in.now) in
    let o = a.out.now in
    rw (← c.in_ok-block.ensures) (reached b o _ 16 n (c.block-2.ensures ∙ ap (λ (k : ℕ). b ++ drop k o) (sym n)))
