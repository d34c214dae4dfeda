-- Head, label, data and IV, one behind the other.
use Rattle.journal.proofs.Names.{◌++◌, ◌+◌, ◌∙◌, ◌≡◌, append_assoc, arith, entry_of, head, length, length-append, over-behind, part}
use Rattle.journal.proofs.Cases.{short}
use Rattle.journal.proofs.Writing.{copied_then, length-part-of, length-head}
use Rattle.journal.proofs.writer.put_asked.Goals as goal

pub put_part-requires-clause-p_len_bound : goal.put_part-requires-clause-p_len_bound
put_part-requires-clause-p_len_bound c = omega (arith, short (entry_of c.args.call.now) c.requires.short)

pub put_part-requires-2-clause-p_len_bound : goal.put_part-requires-2-clause-p_len_bound
put_part-requires-2-clause-p_len_bound c = omega (arith, short (entry_of c.args.call.now) c.requires.short)

pub put_part-requires-3-clause-p_len_bound : goal.put_part-requires-3-clause-p_len_bound
put_part-requires-3-clause-p_len_bound c = omega (arith, short (entry_of c.args.call.now) c.requires.short)

pub returns : goal.returns
returns c =
    let e = entry_of c.args.call.now in
    let h = head e in
    let l = part e.label in
    let d = part e.«data» in
    let first = copied_then h l _ (c.args.out.now) _ 6 (c.copy_from_slice.ensures.after ∙ c.head.ensures) (length-head e) c.put_part.ensures in
    let n : length (h ++ l) ≡ 10 + length e.label = omega (arith, length-append h l, length-head e, length-part-of e.label) in
    let second = over-behind (h ++ l) d (c.args.out.now) _ _ _ n first c.put_part-2.ensures in
    let m : length ((h ++ l) ++ d) ≡ 10 + length e.label + 4 + length e.«data» =
    omega (arith, length-append (h ++ l) d, n, length-part-of e.«data») in
    over-behind ((h ++ l) ++ d) (part e.iv) (c.args.out.now) _ _ _ m second c.put_part-3.ensures ∙ simp append_assoc
