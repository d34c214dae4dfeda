-- `cbc::decrypt` meets its contract. The last block decides (`unpad`), before a byte is written; then the front and what the padding leaves
-- of the last block are put together (`open_done`). The round keys turned round twice are the round keys.
use Rattle.cbc.proofs.Names.{Ok, ◌-◌, ◌∙◌, ◌≡◌, ◌≤◌, arith, cbc_decrypt, cbc_text, chain, drop, length, length-unwords, rules, reverse}
use Rattle.cbc.proofs.Names.{reverse-reverse, sym, ℕ, List, unpadded, unpadded-le, unwords}
use Rattle.cbc.proofs.Opens.{open_refused, open_done}
use Rattle.std.proofs.lemmas.Result.{err_from_is_err_and}
use Rattle.cbc.proofs.decrypt.Goals as goal

-- the last block, decrypted under the round keys turned round twice
last_is : (rk back iv d last : List ℕ) → back ≡ reverse rk → last ≡ drop (length d - 16) (chain (cbc_decrypt (reverse back)) (unwords iv) d)
    → last ≡ drop (length d - 16) (cbc_text rk (unwords iv) d)
last_is rk back iv d last e f = rw (e, reverse-reverse rk) at f

pub returns-in_err-keep : goal.returns-in_err-keep
returns-in_err-keep c =
    let a = c.args in
    let last = c.last_block-last.result in
    let is = last_is a.rk _ a.iv (a.«data».now) last c.reversed-back.ensures c.last_block-last.ensures in
    let r = open_refused a.rk (unwords a.iv) (a.«data».now) last (a.out.now) (length-unwords a.iv) c.requires.in_bounds
    c.requires.data_len is _ (sym c.unpad.ensures ∙ c.in_err-keep.was) in
    let p = err_from_is_err_and c.from_residual.result c.from_residual.ensures.1 in
    record { value = rw (p.1, p.2) r.0; out_after = r.1 }

-- what is kept is no more than a block
kept : (last : List ℕ) (k : ℕ) → length last ≡ 16 → Ok k ≡ unpadded last → k ≤ 16
kept last k n e = let h = unpadded-le last k (sym e) in omega arith

pub put_front-requires : goal.put_front-requires
put_front-requires c =
    let last = c.last_block-last.result in
    let n : length last ≡ 16 = search (rules, c.last_block-last) in
    let k = kept last _ n c.in_ok-keep.ensures in
    record { n_bound = k; n_in_bounds = omega arith }

pub overflow_add-result : goal.overflow_add-result
overflow_add-result c =
    let last = c.last_block-last.result in
    let n : length last ≡ 16 = search (rules, c.last_block-last) in
    let k = kept last _ n c.in_ok-keep.ensures in
    omega arith

pub returns : goal.returns
returns c =
    let a = c.args in
    let last = c.last_block-last.result in
    let is = last_is a.rk _ a.iv (a.«data».now) last c.reversed-back.ensures c.last_block-last.ensures in
    let front = rw (c.reversed-back.ensures, reverse-reverse a.rk) at c.decrypt_blocks.ensures.out_after in
    let r = open_done a.rk (unwords a.iv) (a.«data».now) last (a.out.now) (length-unwords a.iv) c.requires.in_bounds
    c.requires.data_len is c.in_ok-keep.keep c.decrypt_blocks.new.out c.put_front.new.out c.requires.data_in_bounds
    (sym c.in_ok-keep.ensures) front c.put_front.ensures in
    record { value = r.0; out_after = r.1 }
