-- `gcm::nonce_counter` meets its contract: the three words of twelve bytes, and 1 behind them (`nonce_counter_words`).
use Rattle.gcm.proofs.Names.{below_each}
use Rattle.gcm.proofs.InWords.{nonce_counter_words}
use Rattle.gcm.proofs.nonce_counter.Goals as goal

pub returns : goal.returns
returns c =
    let iv = c.args.iv.now in
    nonce_counter_words iv _ _ _ c.requires (below_each 256 iv (λ i. (c.type_inv.iv i).fits))
    c.word_at.ensures c.word_at-2.ensures c.word_at-3.ensures
