-- `stream::few::lay` meets its contract: the states of each kind are laid as they are known ahead.
use Rattle.stream.proofs.Names.{arith, length-unwords, unwords-bytes}
use Rattle.stream.proofs.Ahead.{laid_counters, laid_before}
use Rattle.stream.proofs.few.lay.Goals as goal

pub returns-in-Feedback : goal.returns-in-Feedback
returns-in-Feedback c = rw c.in-Feedback.is (λ rk. laid_before rk _ _ _ _ _ (length-unwords _) (omega arith) c.lay_before.ensures)

pub returns-in-Counter : goal.returns-in-Counter
returns-in-Counter c =
    rw c.in-Counter.is (λ rk. laid_counters _ rk _ _ _ _ _ (length-unwords _) (unwords-bytes _) c.lay_counters.ensures)
