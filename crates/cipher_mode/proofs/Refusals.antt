-- Every refusal has a number that is not 0, reports length 0, and says nothing of a counter.
use Rattle.block.proofs.Base.{◌<◌, ℕ, ◌≡◌, ap, refl, sym, ◌≢◌, false, arith}
use Rattle.cipher_mode.specs.Outcome.{Head, refusal, telling}
use Rattle.cipher_mode.specs.Answer.{refusal_head}
use Rattle.cipher_mode.specs.declared.answer.Refusal.{Refusal}
use Rattle.cipher_mode.specs.declared.answer.Refusal.TheVariants.{ErrorBlockSize, ErrorDataLen, InvalidLastU8, InvalidTag}
use Rattle.cipher_mode.specs.declared.answer.Refusal.TheVariants.{TooLong, NoRoom, EmptyCbc, ShortGcm, WrongIv, WrongBlock, Ended}
use Rattle.cipher_mode.specs.declared.answer.Refusal.TheVariants.{WrongNumber, Retired, InvalidPadding}

-- what every refusal reports
pub record Refuses (h : Head) : Type 0 where
  pub not-zero : h.number ≢ 0
  pub no_size : h.size ≡ 0
  pub no_round : h.came_round ≡ 0

by_number : (n : ℕ) → 0 < n → Refuses (refusal n)
by_number n h = record { not-zero = λ e. omega arith; no_size = refl; no_round = refl }

pub refuses : (r : Refusal) → Refuses (refusal_head r)
refuses ErrorBlockSize = by_number 1 (omega arith)
refuses ErrorDataLen = by_number 2 (omega arith)
refuses InvalidLastU8 = by_number 3 (omega arith)
refuses InvalidTag = by_number 4 (omega arith)
refuses TooLong = by_number 5 (omega arith)
refuses NoRoom = by_number 6 (omega arith)
refuses EmptyCbc = by_number 8 (omega arith)
refuses (ShortGcm n) = record { not-zero = λ e. omega arith; no_size = refl; no_round = refl }
refuses WrongIv = by_number 10 (omega arith)
refuses WrongBlock = by_number 11 (omega arith)
refuses Ended = by_number 12 (omega arith)
refuses WrongNumber = by_number 13 (omega arith)
refuses Retired = by_number 14 (omega arith)
refuses InvalidPadding = by_number 15 (omega arith)

-- so none says anything of a counter
pub quiet_refusal : (r : Refusal) → telling false (refusal_head r) ≡ refusal_head r
quiet_refusal r =
    let h = refusal_head r in
    ap {B = Head} (λ (c : ℕ). record { number = h.number; size = h.size; missing = h.missing; came_round = c; key = h.key })
    (sym (refuses r).no_round)
