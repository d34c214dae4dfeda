-- `pieces::flow::run` meets its contract. Where the text does not fill the begun block, its pad is all that is needed
-- (`text-short`); where it does, what follows stands behind it in the output (`over-behind`).
use Rattle.pieces.proofs.Names.{◌-◌, ◌∙◌, ◌≡◌, arith, drop, flow_next, flow_text, le-ltb, length, length-drop, lt-ltb, rules}
use Rattle.pieces.proofs.Names.{over-behind, refl, tail_is, xors}
use Rattle.pieces.proofs.Pads.{begun-pad, length_both}
use Rattle.pieces.proofs.KeyStream.{text-short}
use Rattle.pieces.proofs.flow.run.Goals as goal

pub returns-then-data-m : goal.returns-then-data-m
unfolding flow_next
returns-then-data-m c =
    let a = c.args in
    let d = a.«data».now in
    let sixteen : length a.flow.pad ≡ 16 = search rules in
    let short = text-short a.counting a.rk a.flow a.p d c.if-data-m.true in
    rw (lt-ltb _ _ c.if-data-m.true, c.xor_bytes.ensures, begun-pad d a.flow.pad a.p c.min.result (omega arith), short)
    (record { value = refl; out_after = refl })

pub returns : goal.returns
unfolding flow_next flow_text
returns c =
    let a = c.args in
    let d = a.«data».now in
    let begun = drop a.p a.flow.pad in
    let sixteen : length a.flow.pad ≡ 16 = search rules in
    let left = length-drop a.p a.flow.pad in
    let ended : length (xors d begun) ≡ 16 - a.p = length_both d begun ∙ omega arith in
    let xored = rw (begun-pad d a.flow.pad a.p c.min.result (omega arith)) at c.xor_bytes.ensures in
    let onward = rw (tail_is d (16 - a.p)) at c.onward.ensures.value in
    let after = rw (tail_is d (16 - a.p)) at c.onward.ensures.out_after in
    record {
      value = rw (le-ltb _ _ c.if-data-m.false) onward;
      out_after = over-behind (xors d begun) _ (a.out.now) c.xor_bytes.new.out _ _ ended xored after;
    }
