-- What a journal has to hold so that its replay ends in one way and no other: the records that were replayed, one behind the other, and
-- what stands behind them.
use Rattle.std.specs.Prelude.{ℕ, ◌+◌, ◌<◌, ◌≡◌, Bool, true, false, cond, Option, Some, None, List, [], ◌∷◌, ◌++◌, eqb, length, get_or}
use Rattle.cipher_mode.specs.Outcome.{Outcome}
use Rattle.cipher_mode.specs.declared.Sm4Cipher.{Sm4Cipher}
use Rattle.journal.specs.Format.{Entry, Proper, written, stored, too_long}
use Rattle.journal.specs.KeyList.{has_number, key_of}
use Rattle.journal.specs.Recomputed.{recomputed, judged}
use Rattle.journal.specs.Reports.{mode_place}
use Rattle.journal.specs.Replay.{Replayed, ended, place_told, report_of, counted_under}
use Rattle.journal.specs.declared.report.Report.{Report}
use Rattle.journal.specs.declared.Stop.{Stop}
use Rattle.journal.specs.declared.Stop.TheVariants.{BadRecord, TooLong, UnknownKey, BadKeys}

-- a call that can be replayed: its parts within the limits, and its key among those that are lent
pub record Replayable (ks : List Sm4Cipher) (e : Entry) : Type 0 where
  pub proper : Proper e
  pub short : too_long e ≡ false
  pub known : has_number e.key ks ≡ true

abbrev pub AllReplayable : List Sm4Cipher → List Entry → Type 0
AllReplayable ks [] = Unit {0}
AllReplayable ks (e ∷ es) = Replayable ks e × AllReplayable ks es

-- the report r with calls counted that stand one behind the other, the first of them at a place
unfoldable pub counted_all : List Sm4Cipher → List Entry → ℕ → Report → Report
counted_all ks [] place r = r
counted_all ks (e ∷ es) place r = counted_all ks es (place + length (written e)) (counted_under ks e place r)

-- the call e stands written at the front of b
pub record Begins (b : List ℕ) (e : Entry) : Type 0 where
  pub proper : Proper e
  pub rest : List ℕ
  pub split : b ≡ written e ++ rest

-- a call stands there that has the property P
pub record BeginsWith (P : Entry → Type 0) (b : List ℕ) : Type 0 where
  pub entry : Entry
  pub begins : Begins b entry
  pub holds : P entry

-- why replay ends before the bytes b
abbrev pub Why : List Sm4Cipher → List ℕ → Option Stop → Type 0
Why ks b None = length b ≡ 0
Why ks b (Some BadRecord) = (0 < length b) × ((e : Entry) → Begins b e → ⊥)
Why ks b (Some TooLong) = BeginsWith (λ e. too_long e ≡ true) b
Why ks b (Some UnknownKey) = BeginsWith (λ e. (too_long e ≡ false) × (has_number e.key ks ≡ false)) b
Why ks b (Some BadKeys) = ⊥

-- the place that is told: that of the record that was refused, 0 where none was
abbrev pub told_place : Option Stop → ℕ → ℕ
told_place None place = 0
told_place (Some BadRecord) place = place
told_place (Some TooLong) place = place
told_place (Some UnknownKey) place = place
told_place (Some BadKeys) place = 0

-- the bytes b, which stand at a place of the journal, with the report r of what is before them, are replayed to the end x
pub record Ends (ks : List Sm4Cipher) (b : List ℕ) (from : ℕ) (r : Report) (x : Replayed) : Type 0 where
  pub calls : List Entry
  pub rest : List ℕ
  pub split : b ≡ stored calls ++ rest
  pub replayable : AllReplayable ks calls
  pub why : Why ks rest (ended x)
  pub place : place_told x ≡ told_place (ended x) (from + length (stored calls))
  pub report : report_of x ≡ counted_all ks calls from r

-- what a call answers now
abbrev pub answer_now : List Sm4Cipher → Entry → Outcome
answer_now ks e = recomputed (key_of e.key ks) e

-- whether that is otherwise than was recorded
abbrev pub differs : List Sm4Cipher → Entry → Bool
differs ks e = (judged e (answer_now ks e)).differs

abbrev pub NoneDiffers : List Sm4Cipher → List Entry → Type 0
NoneDiffers ks [] = Unit {0}
NoneDiffers ks (e ∷ es) = (differs ks e ≡ false) × NoneDiffers ks es

-- how many calls pass a test, and what a number of each sums to
unfoldable pub count_if : (Entry → Bool) → List Entry → ℕ
count_if test [] = 0
count_if test (e ∷ es) = cond (test e) 1 0 + count_if test es

unfoldable pub sum_of : (Entry → ℕ) → List Entry → ℕ
sum_of f [] = 0
sum_of f (e ∷ es) = f e + sum_of f es

-- r has the exact totals of the calls: by mode and by the number that they answer now, their data's bytes, and the bytes that they give now
pub record Totals (ks : List Sm4Cipher) (es : List Entry) (r : Report) : Type 0 where
  pub records : r.records ≡ length es
  pub by_mode : (i : ℕ) → get_or r.by_mode i 0 ≡ count_if (λ e. eqb (mode_place e.mode) i) es
  pub by_answer : (i : ℕ) → get_or r.by_answer i 0 ≡ count_if (λ e. eqb (answer_now ks e).head.number i) es
  pub bytes_in : r.bytes_in ≡ sum_of (λ e. length e.«data») es
  pub bytes_out : r.bytes_out ≡ sum_of (λ e. (answer_now ks e).head.size) es
