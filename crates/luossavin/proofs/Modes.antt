-- A mode number, by whether it is a mode's.
use Rattle.std.specs.Prelude.{Ok, Err}
use Rattle.block.proofs.Base.{ℕ, ◌≡◌, refl, arith, Bool, cond, false, true, ltb}
use Rattle.cipher_mode.specs.Tables.{mode_of, mode_numbered}
use Rattle.cipher_mode.specs.declared.BadMode.{BadMode}
use Rattle.cipher_mode.specs.declared.CipherMode.{CipherMode}

by_test : (t : Bool) (b : BadMode) (m n : CipherMode) → cond t (Err b) (Ok n) ≡ Ok m → (t ≡ false) × (n ≡ m)
by_test true b m n e = let z : ◌≡◌ {A = ℕ} 0 1 = cc in absurd (omega arith)
by_test false b m n e = (refl, cc)

pub mode_told : (n : ℕ) (m : CipherMode) → mode_numbered n ≡ Ok m → (ltb 4 n ≡ false) × (mode_of n ≡ m)
mode_told n m e = by_test (ltb 4 n) (record {}) m (mode_of n) e

no_mode_by : (t : Bool) (b : BadMode) (n : CipherMode) → ((m : CipherMode) → cond t (Err b) (Ok n) ≡ Ok m → ⊥) → t ≡ true
no_mode_by true b n none = refl
no_mode_by false b n none = absurd (none n refl)

pub no_mode_told : (n : ℕ) → ((m : CipherMode) → mode_numbered n ≡ Ok m → ⊥) → ltb 4 n ≡ true
no_mode_told n none = no_mode_by (ltb 4 n) (record {}) (mode_of n) none
