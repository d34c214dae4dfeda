-- `stream::few::last` meets its contract: the walk comes behind the full blocks (`few-reached`), and the rest is xored with the pad behind
-- them (`ended`), if there is one.
use Rattle.stream.proofs.Names.{◌*◌, ◌/◌, ◌∙◌, ◌≡◌, ◌≤◌, ap, arith, encrypt_block, length, length_tailed, sym, tailed, kind_of}
use Rattle.stream.proofs.Names.{true, unwords}
use Rattle.stream.proofs.Ahead.{few-reached, rest-xored}
use Rattle.stream.proofs.Walks.{ended}
use Rattle.stream.proofs.few.last.Goals as goal

pub returns : goal.returns
returns c =
    let needed = c.pad_needed in
    let a = c.args in
    let d = a.«data».now in
    let m = length d / 16 in
    let h : 16 * m ≤ length d = omega arith in
    let f = c.few-end in
    let x = f.ensures in
    let done = few-reached (kind_of a.kind) a.rk (unwords a.iv) d m h a.out.now _ _ (omega arith) x.state_value x.out_after in
    let pad : needed.result ≡ true → f.result.pad ≡ encrypt_block a.rk (unwords f.result.state) =
    λ e. x.pad_value e ∙ ap (encrypt_block a.rk) (sym x.state_value) in
    let rest = rest-xored _ (tailed (16 * m) d) _ _ pad (λ e. omega (arith, length_tailed d (16 * m), needed.ensures.1 e)) in
    ended (kind_of a.kind) a.rk done _ _ _ (omega arith) (λ e. pad (needed.ensures.0 e)) (rw rest at c.xor_bytes.ensures)
