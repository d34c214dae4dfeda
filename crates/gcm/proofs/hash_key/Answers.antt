-- `gcm::hash_key` meets its contract: four zero words are sixteen zero bytes (`hash-key-words`).
use Rattle.gcm.proofs.InWords.{hash-key-words}
use Rattle.gcm.proofs.hash_key.Goals as goal

pub returns : goal.returns
returns c = hash-key-words c.args.rk _ _ c.encrypt.ensures c.to_u128.ensures
