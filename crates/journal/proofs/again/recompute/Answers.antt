-- The room that is lent serves as the recorded one does (`lent-judged`).
use Rattle.journal.proofs.Names.{Answered, Answers, Entry, List, Sm4Cipher, ap, arith, call_into, entry_of, length, length-append, length-take-le, sym, take, ◌++◌, ◌∙◌, ◌≡◌, ◌≤◌, rules, ℕ}
use Rattle.journal.proofs.Lent.{into_fits, into_length, lent-judged, lent_most}
use Rattle.journal.proofs.again.recompute.Goals as goal

fits : (n : ℕ) (l : List ℕ) → length l ≡ 16400 → n ≤ 16400 → n ≡ length (take n l)
fits n l e h = sym (length-take-le n l (omega arith))

pub slice_bounds-out-end : goal.slice_bounds-out-end
slice_bounds-out-end c = omega (arith, c.lent_room-room.ensures, lent_most (entry_of c.args.call.now))

pub slice_bounds-call_into-end : goal.slice_bounds-call_into-end
slice_bounds-call_into-end c = fits _ _ (search rules) (omega (arith, c.lent_room-room.ensures, lent_most (entry_of c.args.call.now)))

-- what was answered is in the part that was lent
inside : (c : Sm4Cipher) (e : Entry) (o : List ℕ) (a : Answered) (g rest : List ℕ) → Answers a g (call_into c e o)
    → a.length ≤ length (g ++ rest)
inside c e o a g rest answers =
    omega (arith, answers.size, into_fits c e o, into_length c e o, ap length answers.bytes, length-append g rest)

pub slice_bounds-out-end-2 : goal.slice_bounds-out-end-2
slice_bounds-out-end-2 c = inside c.args.cipher _ _ c.call_into-answered.result _ _ c.call_into-answered.ensures

pub slice_bounds-differs-end : goal.slice_bounds-differs-end
slice_bounds-differs-end c =
    sym (length-take-le _ _ (inside c.args.cipher _ _ c.call_into-answered.result _ _ c.call_into-answered.ensures))

pub returns : goal.returns
returns c =
    let size = fits _ _ (search rules) (omega (arith, c.lent_room-room.ensures, lent_most (entry_of c.args.call.now))) in
    let judged =
    lent-judged c.args.cipher (entry_of c.args.call.now) c.requires _ (sym size ∙ c.lent_room-room.ensures) c.call_into-answered.result _ _
    c.differs-differs.result c.call_into-answered.ensures c.differs-differs.ensures in
    record { value = judged.0; number_bound = judged.1.0; length_bound = judged.1.1 }
