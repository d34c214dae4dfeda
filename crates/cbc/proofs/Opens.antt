-- Opening by parts: the last block decides, then the front is written, and then what the padding leaves of the last block.
use Rattle.cbc.proofs.Names.{BadPadding, Err, List, Ok, Result, ◌%◌, ◌++◌, ◌+◌, ◌-◌, ◌∙◌, ◌≡◌, ◌≤◌, append_assoc, arith, behind}
use Rattle.cbc.proofs.Names.{cbc_text, drop, drop_at, drop-drop, into, length, length-drop, length-take-le, opened_into, over}
use Rattle.cbc.proofs.Names.{returned, returned_is, sym, tail_is, tailed, take, take-add, take-append-drop, take_at}
use Rattle.cbc.proofs.Names.{unpadded, unpadded-behind, unpadded-le, ℕ}
use Rattle.cbc.proofs.Blocks.{decrypt-front, length-decrypt}

module _ (rk s d last o : List ℕ) (hs : length s ≡ 16) (full : 16 ≤ length d) (whole : length d % 16 ≡ 0)
    (last_is : last ≡ drop (length d - 16) (cbc_text rk s d)) where
  text-length : length (cbc_text rk s d) ≡ length d
  text-length = length-decrypt rk s d hs whole

  in_parts : take (length d - 16) (cbc_text rk s d) ++ last ≡ cbc_text rk s d
  in_parts = rw last_is (take-append-drop (length d - 16) (cbc_text rk s d))

  last-length : length last ≡ 16
  last-length = rw (last_is, length-drop, text-length) (omega arith)

  -- the last block decides the text
  text_decided : (a : Result ℕ BadPadding) → unpadded last ≡ a → unpadded (cbc_text rk s d) ≡ behind (length d - 16) a
  text_decided a e =
      let p = cbc_text rk s d in
      let f = length d - 16 in
      let l : length (take f p) ≡ f = length-take-le f p (omega (arith, text-length)) in
      rw (in_parts, l, e) at (unpadded-behind (take f p) last (omega (arith, last-length)))

  pub open_refused : (b : BadPadding) → unpadded last ≡ Err b
      → (Err b ≡ unpadded (cbc_text rk s d)) × (o ≡ opened_into (cbc_text rk s d) o)
  open_refused b e =
      let u : unpadded (cbc_text rk s d) ≡ Err b = text_decided (Err b) e in
      (sym u, sym (into (cbc_text rk s d) o (Err b) u))

  pub open_done : (k : ℕ) (o₁ t : List ℕ) → length d ≤ length o → unpadded last ≡ Ok k
      → o₁ ≡ over (cbc_text rk s (take (length d - 16) d)) o → t ≡ take k last ++ drop k (tailed (length d - 16) o₁)
      → (Ok (length d - 16 + k) ≡ unpadded (cbc_text rk s d)) × (returned (length d - 16) o₁ t ≡ opened_into (cbc_text rk s d) o)
  open_done k o₁ t room e e₁ eₜ =
      let p = cbc_text rk s d in
      let f = length d - 16 in
      let n = text-length in
      let le : k ≤ 16 = rw last-length at (unpadded-le last k e) in
      let A = take f p in
      let a : length A ≡ f = length-take-le f p (omega arith) in
      let u : unpadded p ≡ Ok (f + k) = text_decided (Ok k) e in
      let q : o₁ ≡ A ++ drop f o = e₁ ∙ rw (decrypt-front rk s d f hs (omega arith) (omega arith), a) in
      let x : take f o₁ ≡ A = rw q (take_at A (drop f o) f a) in
      let y : drop f o₁ ≡ drop f o = rw q (drop_at A (drop f o) f a) in
      let z : t ≡ take k (drop f p) ++ drop k (drop f o) = eₜ ∙ rw (tail_is o₁ f, y, last_is) in
      let v : take (f + k) p ≡ A ++ take k (drop f p) = take-add f k p in
      let w : length (take (f + k) p) ≡ f + k = length-take-le (f + k) p (omega arith) in
      let g : over (take (f + k) p) o ≡ A ++ (take k (drop f p) ++ drop k (drop f o)) = rw (w, v, append_assoc, drop-drop) in
      (sym u, returned_is o₁ t f ∙ rw (x, z) (sym g) ∙ sym (into p o (Ok (f + k)) u))
