-- `pieces::flow::onward` meets its contract: the stream starts at the next counter, and its end is the flow's.
use Rattle.pieces.proofs.Names.{flow_after, rules, refl, true}
use Rattle.pieces.proofs.Fitting.{spelt}
use Rattle.pieces.proofs.flow.onward.Goals as goal

pub returns-clause-value : goal.returns-clause-value
unfolding flow_after
returns-clause-value c =
    let streamed = c.stream-end.ensures in
    let is-counter = spelt c.args.counter (search rules, λ i. search rules) in
    rw (c.combine_block.ensures, streamed.state_value, streamed.pad_value (refl {a = true}), c.from.ensures)
    (rw (c.next_counter-next.ensures, c.split_block.ensures, is-counter))

pub returns-clause-out_after : goal.returns-clause-out_after
returns-clause-out_after c =
    let is-counter = spelt c.args.counter (search rules, λ i. search rules) in
    rw (c.stream-end.ensures.out_after, c.from.ensures) (rw (c.next_counter-next.ensures, c.split_block.ensures, is-counter))
