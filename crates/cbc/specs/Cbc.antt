-- Cbc of SP 800-38A, and sealing with the padding of RFC 5652, section 6.3.
use Rattle.std.specs.Prelude.{ℕ, List, []}
use Rattle.block.specs.Xor.{xors}
use Rattle.cipher.specs.Sm4.{encrypt_block, decrypt_block}
use Rattle.walk.specs.Walk.{Mode, chain}
use Rattle.padding.specs.Padding.{padded}

-- the state is the ciphertext block before, first the IV; a padded message has no rest
abbrev pub cbc_encrypt : List ℕ → Mode
cbc_encrypt rk = record { block = λ s p. encrypt_block rk (xors p s); next = λ s p. encrypt_block rk (xors p s); rest = λ s p. [] }

abbrev pub cbc_decrypt : List ℕ → Mode
cbc_decrypt rk = record { block = λ s c. xors (decrypt_block rk c) s; next = λ s c. c; rest = λ s c. [] }

-- the message d, padded and encrypted
unfoldable pub cbc_seal : List ℕ → List ℕ → List ℕ → List ℕ
cbc_seal rk iv d = chain (cbc_encrypt rk) iv (padded d)

-- the ciphertext d with its padding, decrypted
abbrev pub cbc_text : List ℕ → List ℕ → List ℕ → List ℕ
cbc_text rk iv d = chain (cbc_decrypt rk) iv d
