-- Number and values for every case of an answer, as in docs/NUMBERS.md.
use Rattle.std.specs.Prelude.{ℕ, List, Result, Ok, Err}
use Rattle.padding.specs.declared.BadPadding.{BadPadding}
use Rattle.padding.specs.declared.BadPadding.TheVariants.{InvalidLastU8 as BadLast, InvalidPadding as BadBytes}
use Rattle.cipher_mode.specs.Outcome.{Head, Outcome, finished, refusal, cut_short, under, telling, leaving}
use Rattle.cipher_mode.specs.declared.answer.Refusal.{Refusal}
use Rattle.cipher_mode.specs.declared.answer.Refusal.TheVariants.{ErrorBlockSize, ErrorDataLen, InvalidLastU8, InvalidTag, TooLong}
use Rattle.cipher_mode.specs.declared.answer.Refusal.TheVariants.{NoRoom, EmptyCbc, ShortGcm, WrongIv, WrongBlock, Ended}
use Rattle.cipher_mode.specs.declared.answer.Refusal.TheVariants.{WrongNumber, Retired, InvalidPadding}
use Rattle.cipher_mode.specs.declared.Done.{Done}
use Rattle.cipher_mode.specs.declared.answer.Answer.{Answer}

-- the refusal of a Cbc message whose padding is none
abbrev pub padding_refusal : BadPadding → Refusal
padding_refusal BadLast = InvalidLastU8
padding_refusal BadBytes = InvalidPadding

abbrev pub refusal_head : Refusal → Head
refusal_head ErrorBlockSize = refusal 1
refusal_head ErrorDataLen = refusal 2
refusal_head InvalidLastU8 = refusal 3
refusal_head InvalidTag = refusal 4
refusal_head TooLong = refusal 5
refusal_head NoRoom = refusal 6
refusal_head EmptyCbc = refusal 8
refusal_head (ShortGcm n) = cut_short n
refusal_head WrongIv = refusal 10
refusal_head WrongBlock = refusal 11
refusal_head Ended = refusal 12
refusal_head WrongNumber = refusal 13
refusal_head Retired = refusal 14
refusal_head InvalidPadding = refusal 15

-- what was done says whether a counter came round
abbrev pub done_head : Done → Head
done_head d = telling d.came_round (finished d.«length»)

-- and a refusal never says it
abbrev pub ending_head : Result Done Refusal → Head
ending_head (Ok d) = done_head d
ending_head (Err r) = refusal_head r

-- the outcome of an ending with the output o, whichever key it is on
abbrev pub ended : Result Done Refusal → List ℕ → Outcome
ended e o = leaving (ending_head e) o

abbrev pub head_of : Answer → Head
head_of a = under a.key (ending_head a.ending)

-- the outcome of an answer with the output o
abbrev pub outcome : Answer → List ℕ → Outcome
outcome a o = leaving (head_of a) o
