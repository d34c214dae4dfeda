-- What is behind the length tells whether the part stands whole.
use Rattle.journal.proofs.Names.{List, None, Option, ReadsPart, Some, ◌-◌, ◌<◌, ◌∙◌, ◌≡◌, ◌≤◌, ap, arith, behind, drop, false, le-leb, length, length-drop}
use Rattle.journal.proofs.Names.{lt-leb, part_at, starts_part, word_at, ℕ}
use denote.Bor.{Bor}
use Rattle.std.specs.Option.{MatchOption}
use Rattle.std.specs.List.{IsSplitAt}
use Rattle.std.proofs.lemmas.List.{drop-drop}
use Rattle.journal.proofs.Bytes.{word_taken}
use Rattle.journal.proofs.Standing.{part_starts}
use Rattle.journal.proofs.records.part.Goals as goal

no_length : (b : List ℕ) → length b < 4 → starts_part b ≡ false
unfolding starts_part
no_length b h = rw (lt-leb 4 (length b) h)

told : (b r : List ℕ) (n : ℕ) (o : Option (Bor (List ℕ) × Bor (List ℕ))) → 4 ≤ length b → r ≡ drop 4 b → n ≡ word_at b 0
    → MatchOption o (length r < n) (λ p. IsSplitAt r n p.0.now p.1.now)
    → MatchOption o (starts_part b ≡ false) (λ p. ReadsPart b p.0.now p.1.now)
unfolding starts_part part_at behind
told b r n None h e f k =
    let l = length-drop 4 b in
    let m = ap length e in
    rw (le-leb 4 (length b) h, lt-leb (word_at b 0) (length b - 4) (omega arith))
told b r n (Some p) h e f k =
    let l = length-drop 4 b in
    let m = ap length e in
    record {
      whole = part_starts b (omega (arith, k.0));
      part = k.1 ∙ rw (e, f);
      rest = k.2 ∙ rw (e, f) (drop-drop (word_at b 0) 4 b);
    }

pub returns-in_err-length : goal.returns-in_err-length
returns-in_err-length c = rw c.from_residual.ensures (no_length _ c.in_err-length.ensures.cases)

pub returns : goal.returns
returns c =
    let read = c.in_ok-length.ensures.cases in
    told _ _ _ _ (omega (arith, read.2)) read.1 (c.from_be_bytes.ensures ∙ word_taken 4 _ _ read.0 (omega arith))
    c.split_at_checked.ensures.cases
