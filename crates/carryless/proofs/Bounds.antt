-- How many bits a product has.
use Rattle.block.proofs.Base.{◌*◌, ◌+◌, ◌<◌, ◌^◌, ℕ, ◌≡◌, arith, digits_lt, div-lt_iff_lt-mul, lit<, mul-div_cancel}
use Rattle.block.specs.Wide.{whole}
use Rattle.carryless.specs.Carryless.{clmul}
use Rattle.carryless.proofs.Laws.{clmul-lt}

-- the high digit of a number
top_digit : (Q P a b : ℕ) → 0 < Q → a * Q + b < P * Q → a < P
top_digit Q P a b p l =
    let h : a * Q < P * Q = omega arith in rw (mul-div_cancel a p) at ((div-lt_iff_lt-mul p).1 h)

-- the high half of a number of 127 bits
pub top_half : (a b : ℕ) → whole a b < 2 ^ 127 → a < 2 ^ 63
top_half a b l = top_digit (2 ^ 64) (2 ^ 63) a b (lit< tt) l

-- a product of two numbers of 128 bits has no more than 255
pub top_lt : (a b c d x y : ℕ) → y < 2 ^ 128 → whole a b * 2 ^ 128 + whole c d ≡ clmul 128 x y → a < 2 ^ 63
top_lt a b c d x y h e = top_half a b (top_digit (2 ^ 128) (2 ^ 127) (whole a b) (whole c d) (lit< tt) (rw e (clmul-lt 127 128 x y h)))

-- a number of two halves is one of 128 bits
pub top_of_halves : (a b c d x y1 y0 : ℕ) → y1 < 2 ^ 64 → y0 < 2 ^ 64 → whole a b * 2 ^ 128 + whole c d ≡ clmul 128 x (whole y1 y0)
    → a < 2 ^ 63
top_of_halves a b c d x y1 y0 h l e = top_lt a b c d x (whole y1 y0) (digits_lt {m = 2 ^ 64} {c = 2 ^ 64} h l) e
