-- `gcm::hashed_counter` meets its contract: the blocks of an empty label and a 16-byte IV are those of J0 (`hashed_counter_words`).
use Rattle.gcm.proofs.Names.{value}
use Rattle.gcm.proofs.InWords.{hashed_counter_words}
use Rattle.gcm.proofs.hashed_counter.Goals as goal

pub returns : goal.returns
returns c = hashed_counter_words (value c.args.h) _ c.args.iv.now _ c.requires c.galois_hash.ensures c.from_u128.ensures
