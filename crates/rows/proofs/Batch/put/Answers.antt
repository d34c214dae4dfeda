-- What is stored at the block's place are the halves of its words, and no other block has that place.
use Rattle.block.proofs.Base.{ℕ, ◌≡◌, rules, get_or, length, w32, Fits}
use Rattle.block.proofs.Entries.{below_each}
use Rattle.rows.proofs.Standing.{one_more_row}
use Rattle.rows.proofs.Batch.put.Goals as goal

pub returns : goal.returns
returns c =
    let a = c.args in
    let x = a.x in
    let w : (i : ℕ) → Fits w32 (get_or x i 0) = λ i. search rules in
    let n : length x ≡ 4 = search rules in
    let p = c.place_of-p in
    λ f R e.
    one_more_row f a.self.now.high a.self.now.low a.i p.result _ _ c.requires p.ensures R
    (rw e (record { four = n; small = below_each _ x (λ i. (w i).fits); high = c.half.ensures; low = c.half-2.ensures }))
