-- A full block gives a full block, either way.
use Rattle.std.specs.Prelude.{◌≡◌, ℕ, List, length, reverse}
use Rattle.std.proofs.Common.{◌∙◌, arith}
use Rattle.block.specs.Xor.{xors}
use Rattle.block.proofs.Xors.{length-xors}
use Rattle.cipher.specs.Sm4.{decrypt_block}
use Rattle.cipher.proofs.Blocks.{length-decrypt_block, length-encrypt_block}
use Rattle.cbc.specs.Cbc.{cbc_decrypt, cbc_encrypt}

pub sealed_full : (rk s p : List ℕ) → length s ≡ 16 → length ((cbc_encrypt rk).block s p) ≡ 16
sealed_full rk s p h = length-encrypt_block rk (xors p s)

pub opened_full : (back s c : List ℕ) → length s ≡ 16 → length ((cbc_decrypt (reverse back)).block s c) ≡ 16
opened_full back s c h =
    let n = length-decrypt_block (reverse back) c in
    length-xors (decrypt_block (reverse back) c) s (omega arith) ∙ n
