-- What is within the limits fits sixteen bits and a few, and no sum wraps; each return is the definition.
use Rattle.journal.proofs.Names.{arith, entry_of, length, lt-ltb, sym, write, written}
use Rattle.journal.proofs.Cases.{short}
use Rattle.journal.proofs.Writing.{length-written, both-put}
use Rattle.journal.proofs.writer.write.Goals as goal

pub returns-then-too_long : goal.returns-then-too_long
unfolding write
returns-then-too_long c = rw (sym c.if-too_long.ensures)

pub overflow_add-asked-3 : goal.overflow_add-asked-3
overflow_add-asked-3 c = omega (arith, short (entry_of c.args.call.now) (sym c.if-too_long.ensures))

pub overflow_add-asked-4 : goal.overflow_add-asked-4
overflow_add-asked-4 c = omega (arith, short (entry_of c.args.call.now) (sym c.if-too_long.ensures))

pub overflow_add-size : goal.overflow_add-size
overflow_add-size c = omega (arith, short (entry_of c.args.call.now) (sym c.if-too_long.ensures))

pub overflow_add-size-2 : goal.overflow_add-size-2
overflow_add-size-2 c = omega (arith, short (entry_of c.args.call.now) (sym c.if-too_long.ensures))

pub overflow_add-size-3 : goal.overflow_add-size-3
overflow_add-size-3 c = omega (arith, short (entry_of c.args.call.now) (sym c.if-too_long.ensures))

pub returns-then-out-size : goal.returns-then-out-size
unfolding write
returns-then-out-size c =
    let e = entry_of c.args.call.now in
    rw (
      sym c.if-too_long.ensures,
      lt-ltb (length (c.args.out.now)) (length (written e)) (omega (arith, c.if-out-size.true, length-written e)),
    )

pub returns : goal.returns
returns c =
    let e = entry_of c.args.call.now in
    let l = length-written e in
    both-put e _ _ _ _ _ (sym c.if-too_long.ensures) (omega (arith, c.if-out-size.false)) (omega arith) (omega arith) c.put_asked.ensures
    c.put_answered.ensures
