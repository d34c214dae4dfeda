-- `gcm::pads_from` meets its contract: the counters from J0 on are laid behind the zero block, and all are ciphered (`pads_ready`).
use Rattle.gcm.proofs.Names.{◌+◌, ◌/◌, arith, length-unwords, rules, refl, replicate, unwords, unwords-bytes}
use Rattle.gcm.proofs.Short.{pads_ready}
use Rattle.gcm.proofs.pads_from.Goals as goal

pub returns : goal.returns
returns c =
    let a = c.args in
    let m = a.n / 16 + 2 in
    pads_ready a.rk (unwords a.j0) (length-unwords a.j0) (unwords-bytes a.j0) m (m + 1) _ _ (replicate 512 0) _
    c.lay_behind.ensures c.encrypt.ensures refl (omega arith) a.n (omega arith) (search rules) (omega arith)
