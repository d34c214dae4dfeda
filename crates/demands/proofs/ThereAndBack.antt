-- Demand 2, there and back: what a call did, its counterpart takes back; and whoever asks in order is served.
use Rattle.demands.specs.Names as N
use N.{AreBytes, Sm4Cipher, false, List, ◌⊎◌, ⊎_elim, ◌∙◌, ◌≡◌, ap, refl, sym, ◌≤◌, ℕ, length, le-ltb, Head, done, keyed, reporting}
use N.{block_call, block_of, mode_result, data_check, label_check, retired_check, wrong_iv, key_number, limit, mode_of, room_of, CipherMode}
use N.{Cbc, Cfb, Ctr, Gcm, Ofb, Direction, Decrypt, Encrypt, Ok, host_block_call, host_mode_call, cipher_in, host_key_engine}
use N.{host_key_new, host_key_retire, key_answer_of, key_of, LuossavinKey, lengths_of}
use Rattle.cipher.proofs.Blocks.{block-decrypt-encrypt, block-encrypt-decrypt}
use Rattle.cipher_mode.proofs.Ends.{length-block}
use Rattle.cipher_mode.proofs.Passed.{InOrder}
use Rattle.demands.specs.Call.{single}
use Rattle.demands.specs.CameRound.{round_of}
use Rattle.demands.specs.ThereAndBack.{SameKey, Decryptable, Encryptable, Sixteen, ThereAndBack, Serves, Asks, Served, BlockServed}
use Rattle.demands.proofs.Through.{result-of-done, block_through, block-leaves, host_through, host_leaves, Ready}
use Rattle.demands.proofs.EveryCallAnswers.{new_cipher_answers}
use Rattle.demands.proofs.Retired.{retired_by}
use Rattle.demands.proofs.ModesBack.{encrypted, encrypts, back, forth, length_encrypted}

-- what an exported encryption leaves that has all in order
host_encrypts : (mode : ℕ) (k : LuossavinKey) (label d iv o : List ℕ) → Ready Encrypt mode k label d iv o
    → let rk = k.round_keys in let m = mode_of mode in host_mode_call Encrypt mode k label d iv o
    ≡ keyed (key_number (cipher_in k)) (reporting (round_of m Encrypt rk iv (length d)) (done (encrypted m rk label d iv) o))
host_encrypts mode k label d iv o p =
    host_leaves Encrypt mode k label d iv o p ∙ rw (encrypts (mode_of mode) k.round_keys label d iv o)

-- who may work in a direction
allowed : (dir : Direction) (k : LuossavinKey) → (dir ≡ Encrypt → k.retired ≡ 0) → retired_check dir (cipher_in k).retired ≡ Ok tt
unfolding cipher_in
allowed Encrypt k u = rw (u refl)
allowed Decrypt k _ = refl

-- a block that was worked in one direction, worked in the other under the same key
block_takes_back : (there back : Direction) (c l : Sm4Cipher) → l.answer ≡ c.answer → l.rk ≡ c.rk
    → retired_check back l.retired ≡ Ok tt
    → ((b : List ℕ) → length b ≡ 16 → AreBytes b → block_of back c.rk (block_of there c.rk b) ≡ b)
    → ThereAndBack Sixteen (single (block_call there c)) (single (block_call back l))
block_takes_back there back c l answer keys may undone label b iv o o' bb ib e r =
    let p = block_through there c b o e in
    let a = block_of there c.rk b in
    let q = block-leaves back l a o' (record { key = answer ∙ p.key; size = length-block there c.rk b; may = may; enough = r }) in
    rw (block-leaves there c b o p, result-of-done a o, q, keys, undone b p.size bb)
    (record { number = refl; size = refl; message = result-of-done b o' })

module _ (k later : LuossavinKey) (s : SameKey k later) where
  same_key : ((cipher_in later).answer ≡ (cipher_in k).answer) × ((cipher_in later).rk ≡ (cipher_in k).rk)
  unfolding cipher_in
  same_key = (ap key_answer_of s.answer, s.keys)

  -- For every mode number and every two records of one key: if encryption answers 0, decryption of its result, with the same IV and label,
  -- given room, answers 0 with the message and its length.
  pub decryption_takes_back : (mode : ℕ)
      → ThereAndBack (Decryptable (mode_of mode)) (host_mode_call Encrypt mode k) (host_mode_call Decrypt mode later)
  decryption_takes_back mode label d iv o o' db ib e r =
      let text = encrypted (mode_of mode) k.round_keys label d iv in
      let (b, p) = host_through Encrypt mode k label d iv o e in
      let x = host_encrypts mode k label d iv o (b, p) in
      let t = back k.round_keys label d iv ib db (mode_of mode) p.iv-size p.content in
      let q : InOrder (cipher_in later).answer (cipher_in later).retired Decrypt (mode_of mode) (lengths_of label text iv o') =
      record { key = same_key.0 ∙ p.key; iv-size = p.iv-size; may = refl; label = p.label; content = t.content; room = rw x at r } in
      rw (x, result-of-done text o, host_leaves Decrypt mode later label text iv o' (b, q), s.keys, t.opened o')
      (record { number = refl; size = refl; message = result-of-done d o' })

  -- If decryption answers 0, encryption of its result, where that key is not retired, with the same IV and label, given room and in Cbc no
  -- more than may be encrypted, answers 0 with the same bytes.
  pub encryption_takes_back : (mode : ℕ) → k.retired ≡ 0
      → ThereAndBack (Encryptable (mode_of mode)) (host_mode_call Decrypt mode later) (host_mode_call Encrypt mode k)
  encryption_takes_back mode u label text iv o o' cb ib e r =
      let rk = k.round_keys in
      let (b, p) = host_through Decrypt mode later label text iv o e in
      let y : host_mode_call Decrypt mode later label text iv o
      ≡ keyed (key_number (cipher_in later)) (mode_result (mode_of mode) Decrypt rk label text iv o) =
      host_leaves Decrypt mode later label text iv o (b, p) ∙ rw s.keys in
      let (t, fits) = forth rk label text iv o (mode_of mode) p.iv-size p.content (rw y at e) (rw y at r.0) in
      let x = rw t.opened at y in
      let key = sym same_key.0 ∙ p.key in
      let may = allowed Encrypt k (λ _. u) in
      let q : InOrder (cipher_in k).answer (cipher_in k).retired Encrypt (mode_of mode) (lengths_of label t.text iv o') =
      record { key = key; iv-size = p.iv-size; may = may; label = p.label; content = fits; room = rw x at r.1 } in
      rw (x, result-of-done t.text o, host_encrypts mode k label t.text iv o' (b, q), t.again cb)
      (record { number = refl; size = refl; message = result-of-done text o' })

  -- If encryption of one block answers 0, decryption of the result, given room, answers 0 with the block;
  pub block_decryption_takes_back : ThereAndBack Sixteen (single (host_block_call Encrypt k)) (single (host_block_call Decrypt later))
  unfolding host_block_call
  block_decryption_takes_back =
      block_takes_back Encrypt Decrypt (cipher_in k) (cipher_in later) same_key.0 same_key.1 refl
      (block-decrypt-encrypt (cipher_in k).rk)

  -- and the other way about, where the key is not retired.
  pub block_encryption_takes_back : k.retired ≡ 0
      → ThereAndBack Sixteen (single (host_block_call Decrypt later)) (single (host_block_call Encrypt k))
  unfolding host_block_call
  block_encryption_takes_back u =
      block_takes_back Decrypt Encrypt (cipher_in later) (cipher_in k) (sym same_key.0) (sym same_key.1) (allowed Encrypt k (λ _. u))
      (block-encrypt-decrypt (cipher_in later).rk)

-- One key: a record that is retired, one that is marked with another engine, and the same 16 bytes set up under another number.
pub retired-same-key : (k : LuossavinKey) → SameKey k (host_key_retire k)
retired-same-key k = retired_by (SameKey k) k (λ e. record { keys = refl; answer = sym e }) (λ _. search)

pub engine_same-key : (k : LuossavinKey) (e : ℕ) → SameKey k (host_key_engine k e)
unfolding host_key_engine
engine_same-key k e = search

pub set-up-same-key : (key : List ℕ) (n m : ℕ) → length key ≡ 16 → 1 ≤ n → n ≤ 65535 → 1 ≤ m → m ≤ 65535
    → SameKey (host_key_new key n) (host_key_new key m)
unfolding host_key_new key_of
set-up-same-key key n m size n₁ n₂ m₁ m₂ =
    let first = (new_cipher_answers key n).done size n₁ n₂ in
    let other = (new_cipher_answers key m).done size m₁ m₂ in
    record { keys = other.2 ∙ sym first.2; answer = ap (λ (h : Head). h.number) (other.0 ∙ sym first.0) }

-- Whoever asks in order is served.

label_in_order : (m : CipherMode) (n : ℕ) → (m ≡ Gcm → n ≤ limit) → label_check m n ≡ Ok tt
label_in_order Cfb n _ = refl
label_in_order Ofb n _ = refl
label_in_order Ctr n _ = refl
label_in_order Cbc n _ = refl
label_in_order Gcm n h = rw (le-ltb limit n (h refl))

sixteen_in_order : (m : CipherMode) → wrong_iv m 16 ≡ false
sixteen_in_order Cfb = refl
sixteen_in_order Ofb = refl
sixteen_in_order Ctr = refl
sixteen_in_order Cbc = refl
sixteen_in_order Gcm = refl

iv_in_order : (m : CipherMode) (n : ℕ) → (n ≡ 16) ⊎ ((m ≡ Gcm) × (n ≡ 12)) → wrong_iv m n ≡ false
iv_in_order m n s =
    ⊎_elim (λ e. rw e (sixteen_in_order m)) (λ (e, f). rw (e, f)) s

-- With a usable and unretired key, in every mode: encryption that is asked for in order is done with the table's length, and so is
-- decryption of what it gave, under any record of the key, with the message's.
module _ (mode : ℕ) (k : LuossavinKey) (h : mode ≤ 4) (a : k.answer ≡ 0) (u : k.retired ≡ 0) where
  seals : (label d iv o : List ℕ) → Asks (mode_of mode) label d iv o
      → Serves (room_of (mode_of mode) Encrypt (length d)) (host_mode_call Encrypt mode k label d iv o)
  unfolding cipher_in key_answer_of data_check
  seals label d iv o q =
      let m = mode_of mode in
      rw (host_encrypts mode k label d iv o (
        le-ltb 4 mode h,
        record {
          key = rw a;
          iv-size = iv_in_order m (length iv) q.iv-size;
          may = rw u;
          label = label_in_order m (length label) q.label-fits;
          content = rw (le-ltb limit (length d) q.data-fits);
          room = q.room;
        },
      ))
      (record { number = refl; size = length_encrypted m k.round_keys label d iv })

  pub served : (later : LuossavinKey) → SameKey k later
      → Served (mode_of mode) (host_mode_call Encrypt mode k) (host_mode_call Decrypt mode later)
  served later t =
      record {
        sealing = seals;
        opening = λ label d iv o o' q db ib r.
            let s = seals label d iv o q in
            let back = decryption_takes_back k later t mode label d iv o o' db ib s.number (rw s.size r) in
            record { number = back.number; size = back.size };
      }

-- With a usable key: a call on sixteen bytes with room for them is done with sixteen, encryption where the key is not retired.
pub block_served : (dir : Direction) (k : LuossavinKey) → k.answer ≡ 0 → (dir ≡ Encrypt → k.retired ≡ 0)
    → BlockServed (single (host_block_call dir k))
unfolding host_block_call cipher_in key_answer_of
block_served dir k a u label b iv o n r =
    let c = cipher_in k in
    rw (block-leaves dir c b o (record { key = rw a; size = n; may = allowed dir k u; enough = r }))
    (record { number = refl; size = length-block dir c.rk b })
