-- A number tells its halves.
use Rattle.block.proofs.Base.{ℕ, ◌≡◌, digits_div, digits_mod, w64, Fits}
use Rattle.block.specs.Wide.{value}
use Rattle.block.specs.declared.U128.{U128}
use Rattle.luossavin.specs.Halves.{hash_of}

pub of_value : (r : U128) {n : ℕ} → Fits w64 r.low → value r ≡ n → r ≡ hash_of n
of_value r small e = rw (← e, digits_div r.high small.fits, digits_mod r.high small.fits)
