-- Each record is made by a call of `from`.
use Rattle.block.proofs.Base.{ap, List, rules}
use Rattle.cipher_mode.specs.declared.Sm4Cipher.{Sm4Cipher}
use Rattle.journal.specs.declared.keys.Keys.{Keys}
use Rattle.luossavin.specs.Key.{cipher_in}
use Rattle.luossavin.specs.Journals.{keys_of}
use Rattle.luossavin.proofs.Ciphers.{no_record, all_made}
use Rattle.luossavin.proofs.journals.KeysFromLuossavinKeys.from.Goals as goal

pub returns : goal.returns
unfolding keys_of
returns c =
    let calls = c.map.ensures.items in
    let k = c.args.keys in
    ap {B = Keys} (λ (cs : List Sm4Cipher). record { count = k.count; keys = cs })
    (all_made k.keys c.map.result (search (rules, calls.long))
    (λ i h. let call = (calls.at i no_record (cipher_in no_record) (search (rules, h, calls.long))).2 in search (rules, call)))
