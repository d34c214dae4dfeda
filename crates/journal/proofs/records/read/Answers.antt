-- Each early return is by the test that failed; where none did, the record stands whole.
use Rattle.journal.proofs.Names.{Direction, Entry, ap, List, get_or-take, ◌∙◌, ◌≡◌, arith, direction_of, false, from_room, front, refl}
use Rattle.std.specs.Prelude.{not}
use Rattle.journal.proofs.Names.{not-false, sym, true, ℕ}
use Rattle.journal.proofs.Cases.{clash}
use Rattle.journal.proofs.Bytes.{word_taken}
use Rattle.journal.proofs.Reading.{at, key_read, mark-tested, mark_test, marked_so, marked_way}
use Rattle.journal.proofs.Standing.{not-standing}
use Rattle.journal.proofs.records.read.Goals as goal

pub returns-in_err-head : goal.returns-in_err-head
returns-in_err-head c =
    let short = c.in_err-head.ensures.cases in rw c.from_residual.ensures (not-standing _ (λ s. omega (arith, s.long)))

pub returns-then-ne : goal.returns-then-ne
returns-then-ne c =
    let head = c.in_ok-head.ensures.cases.0 in
    let told : true ≡ not (mark_test c.in_ok-head.head.now) = c.if-ne.ensures in
    not-standing _ (λ s. let z : true ≡ false = rw (mark-tested _ _ head s.mark) at told in cc)

pub returns-in_err-direction : goal.returns-in_err-direction
returns-in_err-direction c =
    let head = c.in_ok-head.ensures.cases.0 in
    let far = c.in_err-direction.ensures in
    rw c.from_residual-in_err-direction.ensures (not-standing _ (λ s. let d = marked_way _ _ head s.mark in absurd (omega arith)))

pub returns-in_err-label : goal.returns-in_err-label
returns-in_err-label c =
    let rest = c.in_ok-head.ensures.cases.1 in
    rw c.from_residual-in_err-label.ensures (not-standing _ (λ s. clash _ s.label (rw rest at c.in_err-label.ensures)))

pub returns-in_err-data : goal.returns-in_err-data
returns-in_err-data c =
    let head = c.in_ok-head.ensures.cases.1 in
    let label = c.in_ok-label.ensures in
    rw c.from_residual-in_err-data.ensures
    (not-standing _ (λ s. clash _ s.«data» (rw (label.rest, head) at c.in_err-data.ensures)))

pub returns-in_err-iv : goal.returns-in_err-iv
returns-in_err-iv c =
    let head = c.in_ok-head.ensures.cases.1 in
    let label = c.in_ok-label.ensures in
    let d = c.in_ok-data.ensures in
    rw c.from_residual-in_err-iv.ensures
    (not-standing _ (λ s. clash _ s.iv (rw (d.rest, label.rest, head) at c.in_err-iv.ensures)))

pub returns-in_err-middle : goal.returns-in_err-middle
returns-in_err-middle c =
    let head = c.in_ok-head.ensures.cases.1 in
    let label = c.in_ok-label.ensures in
    let d = c.in_ok-data.ensures in
    let iv = c.in_ok-iv.ensures in
    let short = rw (iv.rest, d.rest, label.rest, head) at c.in_err-middle.ensures.cases in
    rw c.from_residual-in_err-middle.ensures (not-standing _ (λ s. omega (arith, s.middle)))

pub returns-in_err-output : goal.returns-in_err-output
returns-in_err-output c =
    let head = c.in_ok-head.ensures.cases.1 in
    let label = c.in_ok-label.ensures in
    let d = c.in_ok-data.ensures in
    let iv = c.in_ok-iv.ensures in
    let middle = c.in_ok-middle.ensures.cases.1 in
    rw c.from_residual-in_err-output.ensures
    (not-standing _ (λ s. clash _ s.output (rw (middle, iv.rest, d.rest, label.rest, head) at c.in_err-output.ensures)))

-- calls are equal by their fields
same_entry : {d d' : Direction} {m m' k k' r r' n n' : ℕ} {l l' a a' i i' o o' : List ℕ} → d ≡ d' → m ≡ m' → k ≡ k' → l ≡ l' → a ≡ a'
    → i ≡ i' → r ≡ r' → n ≡ n' → o ≡ o' → ◌≡◌ {A = Entry}
    (record { direction = d; mode = m; key = k; label = l; «data» = a; iv = i; room = r; number = n; output = o })
    (record { direction = d'; mode = m'; key = k'; label = l'; «data» = a'; iv = i'; room = r'; number = n'; output = o' })
same_entry a b c d e f g h i = rw (a, b, c, d, e, f, g, h, i)

pub returns : goal.returns
unfolding front
returns c =
    let b = c.args.s.now in
    let start = c.in_ok-head.ensures.cases in
    let label = c.in_ok-label.ensures in
    let d = c.in_ok-data.ensures in
    let iv = c.in_ok-iv.ensures in
    let middle = c.in_ok-middle.ensures.cases in
    let output = c.in_ok-output.ensures in
    let same : c.in_ok-iv.rest.now ≡ from_room b = rw (iv.rest, d.rest, label.rest, start.1) refl in
    let way = c.in_ok-direction.ensures in
    let two = at b _ start.0 2 (omega arith) in
    record {
      stands =
          record {
            long = omega (arith, start.2);
            mark = marked_so b _ start.0 (not-false _ (sym c.if-ne.ensures)) way.0;
            label = rw (← start.1) label.whole;
            «data» = rw (← start.1, ← label.rest) d.whole;
            iv = rw (← start.1, ← label.rest, ← d.rest) iv.whole;
            middle = rw (← same) (omega (arith, middle.2));
            output = rw (← same, ← middle.1) output.whole;
          };
      entry =
          same_entry (way.1 ∙ ap direction_of two) (at b _ start.0 3 (omega arith)) (c.from_be_bytes.ensures ∙ key_read b _ start.0) (label.part ∙ rw start.1)
          (d.part ∙ rw (label.rest, start.1)) (iv.part ∙ rw (d.rest, label.rest, start.1))
          (c.from_be_bytes-2.ensures ∙ word_taken 5 _ _ middle.0 (omega arith) ∙ rw same)
          (rw (middle.0, same) (get_or-take 5 (from_room b) 4 0 (omega arith))) (output.part ∙ rw (middle.1, same));
      rest = output.rest ∙ rw (middle.1, same);
    }
