-- The first i round keys are stored, and those that are still to come are the definition's from number i on.
use Rattle.cipher.proofs.Names.{◌++◌, ◌-◌, ◌≡◌, keys_from, length, take}
use Rattle.cipher.proofs.Tables.{ck_from}
use Rattle.cipher.proofs.key_schedule.Given as goal

abbrev pub invariant-loop-i : goal.invariant-loop-i
invariant-loop-i l =
    (l.ck-items ≡ ck_from 32 0) × (length l.rk ≡ 32) × (take l.i l.rk ++ keys_from (32 - l.i) l.i l.k ≡ keys_from 32 0 l.initial.k)
