-- The gates are an adder of three bits in every lane.
use Rattle.sliced.proofs.Names.{rules}
use Rattle.sliced.proofs.Ripple.{word-added}
use Rattle.sliced.proofs.counters.add_at.Goals as goal

pub returns : goal.returns
returns c = search (rules, word-added)
