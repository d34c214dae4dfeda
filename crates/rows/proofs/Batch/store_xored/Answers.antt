-- A turn stores the two halves of one block more, each xored with its half of the other block.
use Rattle.block.proofs.Base.{◌*◌, ◌-◌, ◌^◌, ◌<◌, ℕ, ◌∙◌, ◌≡◌, ap, arith, rules, drop, get_or, length-drop, take_all, length, w32, Fits}
use Rattle.block.specs.Blocks.{cat}
use Rattle.block.specs.Words.{words}
use Rattle.block.proofs.Entries.{below_each}
use Rattle.rows.specs.Rows.{Row}
use Rattle.rows.proofs.Storing.{xored_row, length_xored_row, xored-row, block-stored, all_stored}
use Rattle.rows.proofs.Batch.store_xored.Goals as goal

pub loop-i-init : goal.loop-i-init
loop-i-init c = unfold cat in search rules

pub loop-i-preserved : goal.loop-i-preserved
loop-i-preserved c =
    let l = c.loop-i in
    let a = c.args in
    let p = c.place_of-p in
    let x = c.split_block-x.result in
    let high = c.half in
    let low = c.half-in-loop-i in
    let from = a.with.now in
    let d = drop (16 * l.i) from in
    let n = length-drop (16 * l.i) from in
    let w : (i : ℕ) → Fits w32 (get_or x i 0) = λ i. search rules in
    let e : x ≡ words d = c.split_block-x.ensures ∙ ap words (take_all (length from - 16 * l.i) d (omega arith)) in
    let r : Row x high.result low.result =
    record { four = search rules; small = below_each (2 ^ 32) x (λ i. (w i).fits); high = high.ensures; low = low.ensures } in
    let small : (i : ℕ) → get_or from i 0 < 256 = λ i. omega (arith, c.type_inv.with i) in
    let xored =
    xored-row a.self.now.high a.self.now.low from l.i p.result high.result low.result (omega arith) (below_each 256 from small) p.ensures (rw e at r) in
    block-stored a.out.now l.out c.put_half.new.out c.put_half-in-loop-i.new.out _ _ (xored_row a.self.now.high a.self.now.low from) l.i
    (λ i h. length_xored_row from a.m c.requires.1 a.self.now.high a.self.now.low i (omega arith))
    xored l.invariant c.put_half.ensures c.put_half-in-loop-i.ensures

pub returns : goal.returns
returns c =
    let l = c.loop-i in
    let a = c.args in
    let e : l.i ≡ a.m = omega arith in
    λ f R. all_stored a.with.now a.m c.requires.1 a.self.now.high a.self.now.low a.out.now l.out f R (rw e at l.invariant)
