-- `cbc::encrypt` meets its contract. The full blocks go first; the step after them takes the padded message's last block, which is the
-- padded rest (`rest-padded`), and then nothing is left.
use Rattle.cbc.proofs.Names.{◌%◌, ◌+◌, ◌-◌, ◌∙◌, ◌≡◌, ◌≤◌, arith, cbc_encrypt, cbc_seal, length, length-encrypt_block, length-padded}
use Rattle.cbc.proofs.Names.{nothing_left, padded, reached-next, refl, rest-padded, tail_is, tailed, take}
use Rattle.cbc.proofs.Names.{unwords, xors}
use Rattle.cbc.proofs.Goes.{blocks-reached}
use Rattle.cbc.proofs.encrypt.Goals as goal

pub returns : goal.returns
unfolding cbc_seal
returns c =
    let a = c.args in
    let d = a.«data».now in
    let m = cbc_encrypt a.rk in
    let at = length d - length d % 16 in
    let front = c.encrypt_blocks-s.ensures in
    let o = c.encrypt_blocks-s.new.out in
    let s = unwords c.encrypt_blocks-s.result in
    let next = unwords c.step.result in
    let b = take 16 (tailed at (padded d)) in
    let block : take 16 c.pad-last.result ≡ b =
    rw (c.pad-last.ensures, tail_is (padded d) at) (rest-padded d at (omega arith) (omega arith) (omega arith)) in
    let stepped = rw block at c.step.ensures in
    let inside : at + 16 ≤ length (padded d) = omega (arith, length-padded d) in
    let room : at + 16 ≤ length o = omega arith in
    let begun =
    blocks-reached a.rk (unwords a.iv) s d (a.out.now) o at (omega arith) (omega arith) (omega arith) front.result_value
    front.out_after in
    let done =
    reached-next m (unwords a.iv) (padded d) (a.out.now) s o at begun next _ inside room
    (length-encrypt_block a.rk (xors b s)) stepped.result_value stepped.out_after in
    nothing_left m next (padded d) _ (at + 16) (omega (arith, length-padded d)) refl ∙ done.leaves
