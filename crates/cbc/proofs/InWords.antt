-- A block of the message and a state in words, encrypted or decrypted, are their sixteen bytes encrypted or decrypted.
use Rattle.cbc.proofs.Names.{AreBytes, AreWords, List, ◌∙◌, ◌≡◌, ◌≤◌, ap, arith, decrypt-four, decrypt-unwords, decrypt_block}
use Rattle.cbc.proofs.Names.{decrypt_words, encrypt-unwords, encrypt_block, encrypt_words, front-xored, length, length-words}
use Rattle.cbc.proofs.Names.{length-xors, take, unwords, unwords-front, unwords-xors, words, words-below, xors, xors-below, ℕ}

module _ (rk d s : List ℕ) (full : 16 ≤ length d) (d-bytes : AreBytes d) (four : length s ≡ 4) where
  pub encrypted_front : AreWords s → unwords (encrypt_words rk (xors (words d) s)) ≡ encrypt_block rk (xors (take 16 d) (unwords s))
  encrypted_front s-words =
      let n = length-words d in
      let x = xors (words d) s in
      encrypt-unwords rk x (length-xors (words d) s (omega arith) ∙ n) (xors-below 32 (words d) s (words-below d d-bytes) s-words)
      ∙ ap (encrypt_block rk) (front-xored d s full d-bytes four)

  pub decrypted_front : unwords (xors (decrypt_words rk (words d)) s) ≡ xors (decrypt_block rk (take 16 d)) (unwords s)
  decrypted_front =
      unwords-xors (decrypt_words rk (words d)) s (decrypt-four rk (words d)) four
      ∙ rw (decrypt-unwords rk (words d) (length-words d) (words-below d d-bytes), unwords-front d full d-bytes)
