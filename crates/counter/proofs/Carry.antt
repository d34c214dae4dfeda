-- More than a number in two parts: the low part counts below B, and the high one, below A, takes what is carried.
use Rattle.block.proofs.Base.{◌%◌, ◌*◌, ◌+◌, ◌/◌, ◌<◌, ℕ, ◌≡◌, add_assoc, add_comm, add-mul-div_right, add-mul-mod_self_right, mod-mul}

pub carry : (A B high low k : ℕ) → 0 < A → 0 < B → (high * B + low + k) % (A * B) ≡ (high + (low + k) / B) % A * B + (low + k) % B
carry A B high low k p q =
    rw (add_assoc (high * B) low k, add_comm (high * B) (low + k), mod-mul (low + k + high * B) p q)
    (rw (add-mul-div_right (low + k) high q, add-mul-mod_self_right (low + k) high B, add_comm ((low + k) / B) high))
