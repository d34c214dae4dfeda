-- The loop's invariant: replay from here, with the report so far, ends as replay of the whole journal does, and no count passes the
-- place. The measure is how many bytes are to come.
use Rattle.journal.proofs.Names.{Within, ◌-◌, ◌≡◌, ◌≤◌, keys_in, length, replay, replay_from}
use Rattle.journal.proofs.replay.Given as goal

abbrev pub invariant-loop-lent : goal.invariant-loop-lent
invariant-loop-lent l = record {
  inside : length l.rest ≤ length l.journal;
  within : Within (length l.journal - length l.rest) l.report;
  same : replay_from (keys_in l.fn.keys) l.rest (length l.journal - length l.rest) l.report ≡ replay l.fn.keys l.journal;
}

abbrev pub decreases-loop-lent : goal.decreases-loop-lent
decreases-loop-lent l = length l.rest
