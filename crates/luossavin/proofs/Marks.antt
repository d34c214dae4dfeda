-- A yes or no as a host is handed it: 1 or 0.
use Rattle.block.proofs.Base.{◌≡◌, refl, Bool, cond, false, true}
use mir.Val.{bool_byte}

pub mark_byte : (b : Bool) → bool_byte b ≡ cond b 1 0
mark_byte true = refl
mark_byte false = refl
