-- What Cbc opens, Cbc seals back to the same ciphertext, for any round keys.
use Rattle.cbc.proofs.Names.{AreBytes, List, Ok, Undoes, ◌%◌, ◌∙◌, ◌≡◌, ap, arith, block-encrypt-decrypt, cbc_decrypt, cbc_encrypt}
use Rattle.cbc.proofs.Names.{cbc_seal, cbc_text, chain, decrypt_block, length, length-decrypt_block, take, undo, unpadded}
use Rattle.cbc.proofs.Names.{unpadded-padded, xors_cancel, ℕ}
use Rattle.cbc.proofs.Blocks.{Sixteen, Text, whole-short, whole-empty, text-front, text_back, decrypt-block, length-decrypt}

block_back : (rk s c : List ℕ) → Sixteen s → Text c → length c ≡ 16 → (cbc_encrypt rk).block s ((cbc_decrypt rk).block s c) ≡ c
block_back rk s c hs hc n =
    let l = length-decrypt_block rk c in
    rw (xors_cancel (decrypt_block rk c) s (omega arith)) (block-encrypt-decrypt rk c n hc.1)

encrypt_undoes : (rk : List ℕ) → Undoes Sixteen Text (cbc_encrypt rk) (cbc_decrypt rk)
encrypt_undoes rk = record {
  keeps = record {
    front = text-front;
    back = text_back;
    next = λ s c hs hc n. n;
    block = λ s c hs hc n. decrypt-block rk s c hs;
    rest = λ s d hs hd n. whole-short d hd.0 n;
  };
  block = block_back rk;
  next = block_back rk;
  rest = λ s d hs hd n. whole-empty d hd.0 n;
}

-- the ciphertext d, of which opening keeps n bytes
pub cbc_seals_back : (rk iv d : List ℕ) (n : ℕ) → length iv ≡ 16 → AreBytes d → length d % 16 ≡ 0 → unpadded (cbc_text rk iv d) ≡ Ok n
    → cbc_seal rk iv (take n (cbc_text rk iv d)) ≡ d
unfolding cbc_seal
cbc_seals_back rk iv d n sixteen d-bytes whole e =
    let p = cbc_text rk iv d in
    let w : length p % 16 ≡ 0 = rw (length-decrypt rk iv d sixteen whole) whole in
    ap (chain (cbc_encrypt rk) iv) (unpadded-padded p n w e)
    ∙ undo Sixteen Text (cbc_encrypt rk) (cbc_decrypt rk) (encrypt_undoes rk) iv d sixteen (whole, d-bytes)
