-- `stream::few::few` meets its contract: the ciphers of the states that were laid, xored with the blocks (`few-written`), and the one
-- behind them (`few-pad`).
use Rattle.stream.proofs.Names.{◌∙◌, arith, unwords, kind_of}
use Rattle.stream.proofs.Ahead.{few-written, few-pad}
use Rattle.stream.proofs.few.few.Goals as goal

pub returns : goal.returns
returns c =
    let a = c.args in
    let d = a.«data».now in
    let n = c.ciphered.ensures in
    let laid = c.lay.ensures a.rk in
    let done = c.encrypt.ensures in
    let s = unwords a.iv in
    let h = c.requires.m_in_bounds.0 in
    let pad = few-pad (kind_of a.kind) a.rk s d a.m h _ _ _ _ laid done in
    record {
      state_value = c.block_at.ensures ∙ laid a.m (omega arith);
      pad_value = λ e. c.combine_block.ensures ∙ c.block_at-2.ensures ∙ pad (n.1 e);
      out_after = few-written (kind_of a.kind) a.rk s d a.m h _ _ _ _ laid done n.0 a.out.now _ c.xor_bytes.ensures;
    }
