-- The records of a host are made `cipher_mode`'s, each by itself.
use Rattle.block.proofs.Base.{◌<◌, ℕ, ◌∙◌, ◌≡◌, sym, List, map, get_or, length, replicate}
use Rattle.std.proofs.lemmas.List.{ext_get_or, length-map}
use Rattle.std.proofs.Math.ListN.{get_or-map}
use Rattle.cipher_mode.specs.declared.Sm4Cipher.{Sm4Cipher}
use Rattle.luossavin.specs.declared.key.LuossavinKey.{LuossavinKey}
use Rattle.luossavin.specs.Key.{cipher_in}

abbrev pub no_record : LuossavinKey
no_record = record { round_keys = replicate 32 0; answer = 0; number = 0; retired = 0; engine = 0 }

pub all_made : (ks : List LuossavinKey) (cs : List Sm4Cipher) → length cs ≡ length ks
    → ((i : ℕ) → i < length cs → get_or cs i (cipher_in no_record) ≡ cipher_in (get_or ks i no_record)) → cs ≡ map cipher_in ks
all_made ks cs l each =
    ext_get_or (cipher_in no_record) cs (map cipher_in ks) (l ∙ sym (length-map ks cipher_in))
    (λ i h. each i h ∙ sym (get_or-map cipher_in ks i no_record))
