-- What Cbc seals, Cbc opens, for any round keys; and what sealing gives: full blocks.
use Rattle.cbc.proofs.Names.{Any, AreBytes, List, Ok, Undoes, ◌%◌, ◌*◌, ◌+◌, ◌-◌, ◌/◌, ◌∙◌, ◌≡◌, ◌≤◌, arith, below-append}
use Rattle.cbc.proofs.Names.{below-replicate, block-decrypt-encrypt, cbc_decrypt, cbc_encrypt, cbc_seal, cbc_text, chain, chain_length}
use Rattle.cbc.proofs.Names.{encrypt_block-bytes, into, length, length-encrypt_block, length-padded, length-xors, opened_into, over}
use Rattle.cbc.proofs.Names.{padded, padded-unpadded, padding, refl, take-append_seam, undo, unpadded, xors, xors-below, xors_cancel}
use Rattle.cbc.proofs.Names.{ℕ}
use Rattle.cbc.proofs.Blocks.{Sixteen, Whole, Text, whole-front, whole_back, whole-short, whole-empty, text-front, text_back}

pub padded-bytes : (d : List ℕ) → AreBytes d → AreBytes (padded d)
padded-bytes d h = below-append 256 d (padding (length d)) h (below-replicate 256 (16 - length d % 16) (16 - length d % 16) (omega arith))

padded-whole : (d : List ℕ) → Whole (padded d)
padded-whole d = omega (arith, length-padded d)

-- as many bytes come out as go in
pub length-encrypt : (rk s d : List ℕ) → length d % 16 ≡ 0 → length (chain (cbc_encrypt rk) s d) ≡ length d
length-encrypt rk s d h = chain_length Any Whole (cbc_encrypt rk) record {
  front = λ d h n. whole-front d n;
  back = λ d h n. whole_back d h n;
  next = λ s b hs hb n. tt;
  block = λ s b hs hb n. length-encrypt_block rk (xors b s);
  rest = λ s d hs hd n. whole-short d hd n;
} s d tt h

pub length-cbc_seal : (rk iv d : List ℕ) → length (cbc_seal rk iv d) ≡ 16 * (length d / 16 + 1)
unfolding cbc_seal
length-cbc_seal rk iv d = length-encrypt rk iv (padded d) (padded-whole d) ∙ length-padded d

-- a state of bytes
abbrev State : List ℕ → Type 0
State s = Sixteen s × AreBytes s

cbc_undoes : (rk : List ℕ) → Undoes State Text (cbc_decrypt rk) (cbc_encrypt rk)
cbc_undoes rk = record {
  keeps = record {
    front = text-front;
    back = text_back;
    next = λ s b hs hb n. (length-encrypt_block rk (xors b s), encrypt_block-bytes rk (xors b s));
    block = λ s b hs hb n. length-encrypt_block rk (xors b s);
    rest = λ s d hs hd n. whole-short d hd.0 n;
  };
  block = λ s b hs hb n.
      let l : length b ≤ length s = omega arith in
      rw (block-decrypt-encrypt rk (xors b s) (length-xors b s l ∙ n) (xors-below 8 b s hb.1 hs.1)) (xors_cancel b s l);
  next = λ s b hs hb n. refl;
  rest = λ s d hs hd n. whole-empty d hd.0 n;
}

module _ (rk iv d : List ℕ) (sixteen : length iv ≡ 16) (iv-bytes : AreBytes iv) (d-bytes : AreBytes d) where
  cbc_decrypted : cbc_text rk iv (cbc_seal rk iv d) ≡ padded d
  unfolding cbc_seal
  cbc_decrypted =
      undo State Text (cbc_decrypt rk) (cbc_encrypt rk) (cbc_undoes rk) iv (padded d)
      (sixteen, iv-bytes) (padded-whole d, padded-bytes d d-bytes)

  -- the message comes back, and no byte past it is written
  pub cbc_back : (o : List ℕ) → let p = cbc_text rk iv (cbc_seal rk iv d) in (unpadded p ≡ Ok (length d)) × (opened_into p o ≡ over d o)
  cbc_back o =
      rw cbc_decrypted
      (padded-unpadded d, into (padded d) o (Ok (length d)) (padded-unpadded d) ∙ rw (take-append_seam d (padding (length d))))
