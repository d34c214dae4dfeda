-- In each mode, what encrypting gave is in order for decrypting and decrypts to the message, and the other way about.
use Rattle.demands.specs.Names as N
use N.{Kind, not, inl, inr, ◌⊎◌, ⊎_elim, ◌-◌, ◌<◌, all_padding, last_byte, names_padding, limit_of, refused, false, true, List, ◌∙◌, ◌≡◌}
use N.{refl, ◌%◌, ◌≤◌, ℕ, arith, length, take, length-take-le, eq-eqb, le-ltb, ne_eqb, AreBytes, done, reporting, chain, stream_mode}
use N.{CfbDecrypt, CfbEncrypt, CtrKind, OfbKind, cbc_seal, cbc_open, cbc_text, unpadded, J0, hash_key, opens_under, sealed, text_of}
use N.{text_part, gcm_open, mode_result, data_check, wrong_iv, limit, room_of, sealed_limit, CipherMode, Cbc, Cfb, Ctr, Gcm, Ofb, Decrypt}
use N.{Encrypt, Ok}
use Rattle.block.proofs.Same.{by_test}
use Rattle.stream.proofs.RoundTrip.{length-stream, stream_back, stream_forth}
use Rattle.cbc.proofs.RoundTrip.{length-cbc_seal}
use Rattle.cipher_mode.proofs.Opens.{cbc_opens_back}
use Rattle.cbc.proofs.SealsBack.{cbc_seals_back}
use Rattle.cbc.proofs.Blocks.{length-decrypt}
use Rattle.demands.specs.Answered.{length_of}
use Rattle.gcm.proofs.Parts.{length-sealed}
use Rattle.gcm.proofs.RoundTrip.{opens-sealed, text-of-sealed, sealed-of_opened}
use Rattle.gcm.proofs.Settled.{text-size}
use Rattle.cipher_mode.proofs.Opens.{open_refused, open_done}
use Rattle.cipher_mode.proofs.Passed.{sixteen, data-within, whole-blocks_passed, with_tag_passed}
use Rattle.demands.specs.CameRound.{round_of}

-- the message that d is encrypted to
abbrev pub encrypted : CipherMode → List ℕ → List ℕ → List ℕ → List ℕ → List ℕ
encrypted Cfb rk aad d iv = chain (stream_mode CfbEncrypt rk) iv d
encrypted Ofb rk aad d iv = chain (stream_mode OfbKind rk) iv d
encrypted Ctr rk aad d iv = chain (stream_mode CtrKind rk) iv d
encrypted Cbc rk aad d iv = cbc_seal rk iv d
encrypted Gcm rk aad d iv = sealed rk (hash_key rk) (J0 rk iv) aad d

pub encrypts : (m : CipherMode) (rk aad d iv o : List ℕ)
    → mode_result m Encrypt rk aad d iv o ≡ reporting (round_of m Encrypt rk iv (length d)) (done (encrypted m rk aad d iv) o)
encrypts Cfb rk aad d iv o = refl
encrypts Ofb rk aad d iv o = refl
encrypts Ctr rk aad d iv o = refl
encrypts Cbc rk aad d iv o = refl
encrypts Gcm rk aad d iv o = refl

pub length_encrypted : (m : CipherMode) (rk aad d iv : List ℕ) → length (encrypted m rk aad d iv) ≡ room_of m Encrypt (length d)
length_encrypted Cfb rk aad d iv = length-stream CfbEncrypt rk iv d
length_encrypted Ofb rk aad d iv = length-stream OfbKind rk iv d
length_encrypted Ctr rk aad d iv = length-stream CtrKind rk iv d
length_encrypted Cbc rk aad d iv = length-cbc_seal rk iv d
length_encrypted Gcm rk aad d iv = length-sealed rk (hash_key rk) (J0 rk iv) aad d

-- a length that decryption takes
pub tagged_passes : (n : ℕ) → n ≤ sealed_limit → 16 ≤ n → data_check Decrypt Gcm n ≡ Ok tt
unfolding data_check
tagged_passes n h k = rw (le-ltb sealed_limit n h, le-ltb n 16 k)

-- the message c is in order for decrypting, and decrypts to d
pub record Decrypts (m : CipherMode) (rk aad c iv d : List ℕ) : Type 0 where
  pub content : data_check Decrypt m (length c) ≡ Ok tt
  pub opened : (o : List ℕ) → mode_result m Decrypt rk aad c iv o ≡ reporting (round_of m Decrypt rk iv (length c)) (done d o)

module _ (rk aad d iv : List ℕ) (iv-bytes : AreBytes iv) (d-bytes : AreBytes d) where
  -- in every mode
  pub back : (m : CipherMode) → wrong_iv m (length iv) ≡ false → data_check Encrypt m (length d) ≡ Ok tt
      → Decrypts m rk aad (encrypted m rk aad d iv) iv d
  unfolding data_check
  back Cfb n e = record { content = rw (length-stream CfbEncrypt rk iv d) e; opened = λ o. rw (stream_back CfbEncrypt rk iv d) }
  back Ofb n e = record { content = rw (length-stream OfbKind rk iv d) e; opened = λ o. rw (stream_back OfbKind rk iv d) }
  back Ctr n e = record { content = rw (length-stream CtrKind rk iv d) e; opened = λ o. rw (stream_back CtrKind rk iv d) }
  back Cbc n e =
      let l = data-within Encrypt Cbc (length d) e in
      let c = length (cbc_seal rk iv d) in
      let size = length-cbc_seal rk iv d in
      record {
        content = rw (le-ltb sealed_limit c (omega arith), ne_eqb c 0 (λ z. omega arith), eq-eqb (c % 16) 0 (omega arith));
        opened = cbc_opens_back rk iv d (sixteen (length iv) n) iv-bytes d-bytes;
      }
  back Gcm n e =
      let h = hash_key rk in
      let j = J0 rk iv in
      let l = data-within Encrypt Gcm (length d) e in
      let size = length-sealed rk h j aad d in
      record {
        content = tagged_passes (length (sealed rk h j aad d)) (omega arith) (omega arith);
        opened = λ o.
            rw (← open_done rk h j aad (sealed rk h j aad d) o (opens-sealed rk h j aad d), text-of-sealed rk h j aad d);
      }

-- a message of Gcm that was opened is one that opens
pub opened_opens : (rk : List ℕ) (h : ℕ) (j aad c o : List ℕ) → (gcm_open rk h j aad c o).head.number ≡ 0 → opens_under rk h j aad c ≡ true
opened_opens rk h j aad c o z =
    by_test (opens_under rk h j aad c) (λ e. e) (λ e. absurd (omega (arith, rw (← open_refused rk h j aad c o e) at z)))

-- the data c decrypted to a text of the table's length, which encrypts to c
pub record Encrypts (m : CipherMode) (rk aad c iv o : List ℕ) : Type 0 where
  pub text : List ℕ
  pub opened : mode_result m Decrypt rk aad c iv o ≡ reporting (round_of m Decrypt rk iv (length c)) (done text o)
  pub size : length text ≡ length_of m Decrypt rk iv c
  pub again : AreBytes c → encrypted m rk aad text iv ≡ c

module _ (rk aad c iv o : List ℕ) where
  abbrev streamed : Kind → List ℕ
  streamed k = chain (stream_mode k rk) iv c

  -- decrypting refuses, with the output as it was lent, or gives such a text
  pub opening : (m : CipherMode) → wrong_iv m (length iv) ≡ false → data_check Decrypt m (length c) ≡ Ok tt
      → ((n : ℕ) × (0 < n) × (mode_result m Decrypt rk aad c iv o ≡ refused n o)) ⊎ Encrypts m rk aad c iv o
  unfolding cbc_open unpadded
  opening Cfb n e =
      inr (record { text = streamed CfbDecrypt; opened = refl; size = simp length-stream; again = λ _. stream_forth CfbEncrypt rk iv c })
  opening Ofb n e =
      inr (record { text = streamed OfbKind; opened = refl; size = simp length-stream; again = λ _. stream_forth OfbKind rk iv c })
  opening Ctr n e =
      inr (record { text = streamed CtrKind; opened = refl; size = simp length-stream; again = λ _. stream_forth CtrKind rk iv c })
  opening Cbc n e =
      let p = cbc_text rk iv c in
      let k = length p - last_byte p in
      let whole = (whole-blocks_passed (length c) e).1 in
      let size = length-take-le k p (omega arith) in
      by_test (not (names_padding (last_byte p))) (λ f. inl (3, omega arith, rw f))
      (λ f. by_test (not (all_padding p)) (λ g. inl (15, omega arith, rw (f, g)))
      (λ g. inr (record {
        text = take k p;
        opened = rw (f, g, size);
        size = size ∙ rw (length-decrypt rk iv c (sixteen (length iv) n) whole);
        again = λ b. cbc_seals_back rk iv c k (sixteen (length iv) n) b whole (rw (f, g));
      })))
  opening Gcm n e =
      let h = hash_key rk in
      let j = J0 rk iv in
      let long = with_tag_passed (length c) e in
      by_test (opens_under rk h j aad c)
      (λ t. inr (record {
        text = text_of rk j (text_part c);
        opened = rw (← open_done rk h j aad c o t);
        size = text-size rk j c;
        again = λ _. sealed-of_opened rk h j aad c t;
      }))
      (λ t. inl (4, omega arith, rw (← open_refused rk h j aad c o t)))

  -- such a text may be encrypted, in Cbc if it is no longer than that allows
  within : (m : CipherMode) → length c ≤ limit_of Decrypt m → (m ≡ Cbc → length_of m Decrypt rk iv c ≤ limit)
      → length_of m Decrypt rk iv c ≤ limit
  within Cfb h _ = h
  within Ofb h _ = h
  within Ctr h _ = h
  within Cbc _ l = l refl
  within Gcm h _ = omega arith

  pub forth : (m : CipherMode) → wrong_iv m (length iv) ≡ false → data_check Decrypt m (length c) ≡ Ok tt
      → (mode_result m Decrypt rk aad c iv o).head.number ≡ 0 → (m ≡ Cbc → (mode_result m Decrypt rk aad c iv o).head.size ≤ limit)
      → (t : Encrypts m rk aad c iv o) × (data_check Encrypt m (length t.text) ≡ Ok tt)
  unfolding data_check
  forth m n e z l =
      ⊎_elim (λ (k, some, x). absurd (omega (arith, rw x at z)))
      (λ t.
      let small = within m (data-within Decrypt m (length c) e) (λ f. rw (t.opened, t.size) at (l f)) in
      (t, rw (t.size, le-ltb limit (length_of m Decrypt rk iv c) small)))
      (opening m n e)
