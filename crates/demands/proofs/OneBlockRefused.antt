-- Demand 3: one changed block, of the ciphertext or of the label, is refused; and what follows, of editions and of trailing zeros.
use Rattle.demands.specs.Names as N
use N.{false, true, List, [], ◌++◌, ◌∷◌, ◌≢◌, ⊎_elim, ◌∙◌, ◌≡◌, ap, refl, sym, ◌-◌, ◌≤◌, ℕ, arith, drop_of_length-le, length, length-append}
use N.{length-drop, replicate, take-append-drop, length-take-le, le-ltb, AreBytes, encrypt_block, ghash, auth_blocks, OneBlock, J0}
use N.{tag_part, text_part, hash_key, opens_under, gcm_open, lengths_of, mode_call, wrong_iv, limit, sealed_limit, mode_of, Gcm, Decrypt}
use N.{Key, Sm4Cipher, label_of, host_mode_call, cipher_in, LuossavinKey}
use Rattle.ghash.proofs.Changed.{label_changed, text_changed, label-zero, text-zero}
use Rattle.gcm.proofs.HashKey.{hash_key-lt, hash_key_tells, hash_key-zero}
use Rattle.demands.specs.Call.{in_gcm, RefusedAs}
use Rattle.demands.specs.OneBlockRefused.{MovesZero, OneBlockRefused, OtherEditionRefused, LabelZeroRefused, TextZeroRefused}
use Rattle.gcm.proofs.TagTells.{opens_not, opens-alike}
use Rattle.cipher_mode.proofs.Opens.{open_refused}
use Rattle.cipher_mode.proofs.Passed.{InOrder, label_passed, data-within, with_tag_passed}
use Rattle.demands.proofs.Through.{through, leaves}
use Rattle.demands.proofs.ModesBack.{tagged_passes, opened_opens}
use Rattle.label.proofs.LabelTells.{length_label, label-bytes, label-job, label-edition}
use Rattle.ghash.proofs.ZeroKey.{ghash-zero-key}

-- In Gcm, where a message opens, the same tag is refused as 4 for a label and a ciphertext with another hash. J0 stays shut.

pub hash-key_nonzero : (rk : List ℕ) → MovesZero rk → hash_key rk ≢ 0
hash-key_nonzero rk moves z = moves (hash_key_tells rk z)

-- the lengths that Gcm takes: of the label, of the data and of the output
pub record Fits (aad d o : List ℕ) : Type 0 where
  pub label : length aad ≤ limit
  pub longest : length d ≤ sealed_limit
  pub shortest : 16 ≤ length d
  pub room : length d - 16 ≤ length o

module _ (c : Sm4Cipher) where
  -- what opening tells of the lengths, and of the tag
  pub gcm-fits : (aad d iv o : List ℕ) → (mode_call Decrypt (in_gcm c) aad d iv o).head.number ≡ 0 → Fits aad d o
  gcm-fits aad d iv o e =
      let p = through Decrypt (in_gcm c) aad d iv o e in
      record {
        label = label_passed (length aad) p.label;
        longest = data-within Decrypt Gcm (length d) p.content;
        shortest = with_tag_passed (length d) p.content;
        room = p.room;
      }

  pub gcm-opens : (aad d iv o : List ℕ) → (mode_call Decrypt (in_gcm c) aad d iv o).head.number ≡ 0
      → opens_under c.rk (hash_key c.rk) (J0 c.rk iv) aad d ≡ true
  gcm-opens aad d iv o e =
      let x = leaves Decrypt (in_gcm c) aad d iv o (through Decrypt (in_gcm c) aad d iv o e) in
      opened_opens c.rk (hash_key c.rk) (J0 c.rk iv) aad d o (rw x at e)

  pub gcm_in_order : (aad d iv o : List ℕ) → c.answer ≡ Key → wrong_iv Gcm (length iv) ≡ false → Fits aad d o
      → InOrder c.answer c.retired Decrypt Gcm (lengths_of aad d iv o)
  gcm_in_order aad d iv o k n l =
      let label = le-ltb limit (length aad) l.label in
      let content = tagged_passes (length d) l.longest l.shortest in
      record { key = k; iv-size = n; may = refl; label = rw label; content = content; room = l.room }

  pub other_hash-refused : (a₁ a₂ c₁ c₂ t iv o₁ o₂ : List ℕ) → length t ≡ 16
      → ghash (hash_key c.rk) (auth_blocks a₁ c₁) ≢ ghash (hash_key c.rk) (auth_blocks a₂ c₂)
      → Fits a₂ (c₂ ++ t) o₂ → (mode_call Decrypt (in_gcm c) a₁ (c₁ ++ t) iv o₁).head.number ≡ 0
      → RefusedAs 4 o₂ (mode_call Decrypt (in_gcm c) a₂ (c₂ ++ t) iv o₂)
  other_hash-refused a₁ a₂ c₁ c₂ t iv o₁ o₂ n ne l e =
      let rk = c.rk in
      let h = hash_key rk in
      let p = through Decrypt (in_gcm c) a₁ (c₁ ++ t) iv o₁ e in
      let closed = opens_not rk h (hash_key-lt rk) (J0 rk iv) a₁ c₁ a₂ c₂ t n ne (gcm-opens a₁ (c₁ ++ t) iv o₁ e) in
      rw (leaves Decrypt (in_gcm c) a₂ (c₂ ++ t) iv o₂ (gcm_in_order a₂ (c₂ ++ t) iv o₂ p.key p.iv-size l))
      (rw (← open_refused rk h (J0 rk iv) a₂ (c₂ ++ t) o₂ closed) (record { number = refl; size = refl; missing = refl; bytes = refl }))

  -- the same of a whole message, where only the label is another
  pub other_label-refused : (a₁ a₂ s iv o₁ o₂ : List ℕ) → length a₂ ≤ limit → length o₁ ≡ length o₂
      → ghash (hash_key c.rk) (auth_blocks a₁ (text_part s)) ≢ ghash (hash_key c.rk) (auth_blocks a₂ (text_part s))
      → (mode_call Decrypt (in_gcm c) a₁ s iv o₁).head.number ≡ 0 → RefusedAs 4 o₂ (mode_call Decrypt (in_gcm c) a₂ s iv o₂)
  other_label-refused a₁ a₂ s iv o₁ o₂ la eo ne e =
      let l = gcm-fits a₁ s iv o₁ e in
      let whole : text_part s ++ tag_part s ≡ s = take-append-drop (length s - 16) s in
      let n : length (tag_part s) ≡ 16 = length-drop (length s - 16) s ∙ omega arith in
      let fits : Fits a₂ s o₂ = record { label = la; longest = l.longest; shortest = l.shortest; room = omega arith } in
      rw whole at (other_hash-refused a₁ a₂ (text_part s) (text_part s) (tag_part s) iv o₁ o₂ n ne (rw whole fits) (rw whole e))

-- Under a key that does not encrypt the all-zero block to itself, Gcm refuses a message that differs from one that opens
-- inside exactly one block of its ciphertext or of its label: as 4, with length 0 and the output as it was lent.
pub one-block-refused : (k : LuossavinKey) → MovesZero k.round_keys → OneBlockRefused (host_mode_call Decrypt 4 k)
unfolding host_mode_call mode_of cipher_in
one-block-refused k moves a₁ a₂ c₁ c₂ t iv o₁ o₂ ba₁ ba₂ bc₁ bc₂ n eo change opens =
    let rk = k.round_keys in
    let h = hash_key rk in
    let some = hash-key_nonzero rk moves in
    let changed : (length a₁ ≡ length a₂) × (length c₁ ≡ length c₂) × (ghash h (auth_blocks a₁ c₁) ≢ ghash h (auth_blocks a₂ c₂)) =
    ⊎_elim
    (λ x. let (e, o) = x in (ap length e, o.lengths, rw (← e) (text_changed h (hash_key-lt rk) some a₁ c₁ c₂ bc₁ bc₂ o)))
    (λ x. let (e, o) = x in (o.lengths, ap length e, rw (← e) (label_changed h (hash_key-lt rk) some a₁ a₂ c₁ ba₁ ba₂ o))) change in
    let (ea, ec, ne) = changed in
    -- what has the same lengths passes where the first does
    let l = gcm-fits (cipher_in k) a₁ (c₁ ++ t) iv o₁ opens in
    let m = length-append c₁ t in
    let m' = length-append c₂ t in
    other_hash-refused (cipher_in k) a₁ a₂ c₁ c₂ t iv o₁ o₂ n ne
    (record { label = omega arith; longest = omega arith; shortest = omega arith; room = omega arith }) opens

-- A final's label does not open a rough: under another job or edition a file is refused.

-- a file under another label of a block or less
pub short-label-refused : (c : Sm4Cipher) → MovesZero c.rk → (a₁ a₂ file iv o₁ o₂ : List ℕ) → AreBytes a₁ → AreBytes a₂
    → a₁ ≢ a₂ → length a₁ ≡ length a₂ → length a₁ ≤ 16 → length o₁ ≡ length o₂
    → (mode_call Decrypt (in_gcm c) a₁ file iv o₁).head.number ≡ 0 → RefusedAs 4 o₂ (mode_call Decrypt (in_gcm c) a₂ file iv o₂)
short-label-refused c moves a₁ a₂ file iv o₁ o₂ b₁ b₂ ne e l eo opens =
    let rk = c.rk in
    let k : length a₂ ≤ 16 = omega arith in
    let none_after = drop_of_length-le a₁ l ∙ sym (drop_of_length-le a₂ k) in
    let inside : OneBlock a₁ a₂ = record { apart = ne; lengths = e; place = 0; before = refl; after = none_after } in
    other_label-refused c a₁ a₂ file iv o₁ o₂ (omega arith) eo
    (label_changed (hash_key rk) (hash_key-lt rk) (hash-key_nonzero rk moves) a₁ a₂ (text_part file) b₁ b₂ inside) opens

-- Under a key that does not encrypt the all-zero block to itself, a file that opens in Gcm under one job and edition is
-- refused as 4 under every other job or edition.
pub other_edition-refused : (k : LuossavinKey) → MovesZero k.round_keys → OtherEditionRefused (host_mode_call Decrypt 4 k)
unfolding host_mode_call mode_of cipher_in
other_edition-refused k moves j₁ j₂ e₁ e₂ file iv o₁ o₂ hj₁ hj₂ he₁ he₂ other eo opens =
    let n : length (label_of j₁ e₁) ≡ 6 = length_label j₁ e₁ in
    short-label-refused (cipher_in k) moves (label_of j₁ e₁) (label_of j₂ e₂) file iv o₁ o₂ (label-bytes j₁ e₁) (label-bytes j₂ e₂)
    (λ same. ⊎_elim (λ d. d (label-job j₁ e₁ j₂ e₂ same hj₁ hj₂)) (λ d. d (label-edition j₁ e₁ j₂ e₂ same he₁ he₂)) other)
    (n ∙ sym (length_label j₂ e₂)) (omega arith) eo opens

-- A trailing zero cannot be dropped unseen, of the label or of the ciphertext: the length block tells.

-- Under a key that does not encrypt the all-zero block to itself: a file that opens in Gcm under a label whose length is not
-- divisible by 16 is refused as 4 under that label with one zero byte more.
pub label-zero-refused : (k : LuossavinKey) → MovesZero k.round_keys → LabelZeroRefused (host_mode_call Decrypt 4 k)
unfolding host_mode_call mode_of cipher_in
label-zero-refused k moves a file iv o₁ o₂ odd eo opens =
    let rk = k.round_keys in
    let l = gcm-fits (cipher_in k) a file iv o₁ opens in
    let longer = length-append a (0 ∷ []) in
    let text = length-take-le (length file - 16) file (omega arith) in
    other_label-refused (cipher_in k) a (a ++ (0 ∷ [])) file iv o₁ o₂ (omega arith) eo
    (label-zero (hash_key rk) (hash_key-lt rk) (hash-key_nonzero rk moves) a (text_part file) (omega arith) (omega arith) odd) opens

-- Under such a key a file that opens in Gcm and whose ciphertext's length is not divisible by 16 is refused as 4 with one zero
-- byte more between ciphertext and tag, given room.
pub text-zero-refused : (k : LuossavinKey) → MovesZero k.round_keys → TextZeroRefused (host_mode_call Decrypt 4 k)
unfolding host_mode_call mode_of cipher_in
text-zero-refused k moves a c t iv o₁ o₂ n odd room opens =
    let rk = k.round_keys in
    let l = gcm-fits (cipher_in k) a (c ++ t) iv o₁ opens in
    let file = length-append c t in
    let longer = length-append c (0 ∷ []) in
    let whole = length-append (c ++ (0 ∷ [])) t in
    other_hash-refused (cipher_in k) a a c (c ++ (0 ∷ [])) t iv o₁ o₂ n
    (text-zero (hash_key rk) (hash_key-lt rk) (hash-key_nonzero rk moves) a c (omega arith) (omega arith) odd)
    (record { label = l.label; longest = omega arith; shortest = omega arith; room = omega arith }) opens

-- Why demand 3 speaks of keys that do not encrypt the all-zero block to itself: under any other
-- key a tag says nothing of the label.

-- Where the all-zero block is encrypted to itself, H is 0, and so is every hash.
pub every_hash-zero : (rk bs : List ℕ) → encrypt_block rk (replicate 16 0) ≡ replicate 16 0 → ghash (hash_key rk) bs ≡ 0
every_hash-zero rk bs e = ap (λ (h : ℕ). ghash h bs) (hash_key-zero rk e) ∙ ghash-zero-key bs

-- So whatever opens under one label opens under any other that is not too long, with the same outcome.
pub any_label-opens : (k : LuossavinKey) → encrypt_block k.round_keys (replicate 16 0) ≡ replicate 16 0
    → (a₁ a₂ s iv o : List ℕ) → length a₂ ≤ limit
    → (host_mode_call Decrypt 4 k a₁ s iv o).head.number ≡ 0 → host_mode_call Decrypt 4 k a₂ s iv o ≡ host_mode_call Decrypt 4 k a₁ s iv o
unfolding gcm_open host_mode_call mode_of cipher_in
any_label-opens k e a₁ a₂ s iv o l opens =
    let c = cipher_in k in
    let rk = k.round_keys in
    let p = through Decrypt (in_gcm c) a₁ s iv o opens in
    let f = gcm-fits c a₁ s iv o opens in
    let fits : Fits a₂ s o = record { label = l; longest = f.longest; shortest = f.shortest; room = f.room } in
    let same = every_hash-zero rk (auth_blocks a₂ (text_part s)) e ∙ sym (every_hash-zero rk (auth_blocks a₁ (text_part s)) e) in
    leaves Decrypt (in_gcm c) a₂ s iv o (gcm_in_order c a₂ s iv o p.key p.iv-size fits)
    ∙ rw (opens-alike rk (hash_key rk) (J0 rk iv) a₂ a₁ s same) (sym (leaves Decrypt (in_gcm c) a₁ s iv o p))
