-- The code's CK meets its rule by one computed test (`ck_from`), and each turn takes its word by that rule (`ck_rule`).
use Rattle.cipher.proofs.Names.{CK, FK, List, ◌∙◌, ap, arith, keys_from, number_of, refl, round_keys, rules, xors, ℕ}
use Rattle.cipher.proofs.Tables.{ck_from, ck_rule}
use Rattle.cipher.proofs.Rounds.{keys_more, keys-done}
use Rattle.cipher.proofs.key_schedule.Goals as goal

pub loop-i-init : goal.loop-i-init
unfolding ck_from CK number_of
loop-i-init c = (refl, refl, refl)

pub loop-i-preserved : goal.loop-i-preserved
loop-i-preserved c =
    let l = c.loop-i in
    let r = ck_rule _ l.invariant.0 l.i (omega arith) in
    let more = keys_more l.rk l.k _ l.i _ (omega arith) (omega arith) r l.invariant.2 in
    (l.invariant.0, search rules, rw c.round-k.ensures more)

pub returns : goal.returns
unfolding round_keys
returns c =
    let l = c.loop-i in
    keys-done l.rk l.k c.block_xor-k.result l.i (omega arith) (omega arith) l.invariant.2
    ∙ ap (keys_from 32 0) (c.block_xor-k.ensures ∙ ap (λ (w : List ℕ). xors w FK) c.split_block.ensures)
