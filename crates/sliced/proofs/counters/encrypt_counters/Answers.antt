-- The lanes are the words of the counters, and once they are encrypted the rows are those of their ciphers.
use Rattle.sliced.proofs.Names.{List, ◌∙◌, ap, arith, encrypt_block, jumped, place, unwords, words, ℕ}
use Rattle.sliced.proofs.LaneNumbers.{number-place}
use Rattle.sliced.proofs.counters.encrypt_counters.Goals as goal

pub returns : goal.returns
unfolding encrypt_block
returns c =
    let a = c.args in
    let f : ℕ → List ℕ = λ i. words (jumped a.wide (unwords a.c) i) in
    let fits = c.columns_of.ensures.0 in
    c.store_xored.ensures _
    (c.rounds_to_rows.ensures a.m f (omega arith)
    (λ i h.
    let p = number-place i (omega (arith, c.requires.0)) in
    c.count.ensures (place i) p.0 ∙ ap f p.1))
