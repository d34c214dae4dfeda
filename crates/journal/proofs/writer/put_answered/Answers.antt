-- Room and number, and behind them the output.
use Rattle.journal.proofs.Names.{◌∙◌, entry_of}
use Rattle.journal.proofs.Cases.{short}
use Rattle.journal.proofs.Writing.{copied_then, length-middle}
use Rattle.journal.proofs.writer.put_answered.Goals as goal

pub put_part-requires-clause-p_len_bound : goal.put_part-requires-clause-p_len_bound
put_part-requires-clause-p_len_bound c = (short (entry_of c.args.call.now) c.requires.short).output

pub returns : goal.returns
returns c =
    copied_then _ _ _ _ _ 5 (c.copy_from_slice.ensures.after ∙ c.middle.ensures) (length-middle _) c.put_part.ensures
