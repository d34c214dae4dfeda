-- Which candidate a sealed file opens under: the verdict, from the inputs alone.
use Rattle.std.specs.Prelude.{ℕ, ◌+◌, Bool, true, false, cond, List, [], ◌∷◌, Option, Some, None, Result, Ok, Err, ltb, length, take, drop}
use Rattle.cipher_mode.specs.Outcome.{Head, finished, refusal, under}
use Rattle.block.specs.Same.{same}
use Rattle.gcm.specs.Gcm.{hash_key, J0, masked_tag, text_part, tag_part, opens_under}
use Rattle.cipher_mode.specs.declared.KeyAnswer.{KeyAnswer}
use Rattle.cipher_mode.specs.declared.CipherMode.TheVariants.{Gcm}
use Rattle.cipher_mode.specs.declared.Direction.TheVariants.{Decrypt}
use Rattle.cipher_mode.specs.declared.Sm4Cipher.{Sm4Cipher}
use Rattle.cipher_mode.specs.declared.answer.Refusal.TheVariants.{TooLong}
use Rattle.cipher_mode.specs.Answer.{refusal_head}
use Rattle.cipher_mode.specs.Checks.{Checked, refuse, and_then, key_and_iv, data_check}
use Rattle.cipher_mode.specs.Key.{key_number}
use Rattle.editions.specs.Candidates.{bad_list, any_too_long}
use Rattle.editions.specs.declared.Candidate.{Candidate}
use Rattle.editions.specs.declared.Unanswered.{Unanswered}
use Rattle.editions.specs.declared.Unanswered.TheVariants.{BadList, Refused as RefusedHere}
use Rattle.editions.specs.declared.Found.{Found}

pub record Verdict : Type 0 where
  -- done for found and for none, otherwise the refusal
  pub head : Head
  pub found : Bool
  -- which candidate, and where it stands in the buffer; all 0 unless one is found
  pub place : ℕ
  pub start : ℕ
  pub size : ℕ

abbrev pub found_at : ℕ → ℕ → ℕ → Verdict
found_at place start size = record { head = finished 0; found = true; place = place; start = start; size = size }

-- no candidate, with this report
abbrev pub none_with : Head → Verdict
none_with h = record { head = h; found = false; place = 0; start = 0; size = 0 }

-- the same verdict, on the key of number k
abbrev pub on_key : ℕ → Verdict → Verdict
on_key k v = record { head = under k v.head; found = v.found; place = v.place; start = v.start; size = v.size }

-- the first candidate that passes the test; `labels` starts with the candidate at `place`, which stands at `start` of the buffer
unfoldable pub first_opening : (List ℕ → Bool) → List ℕ → List ℕ → ℕ → ℕ → Verdict
first_opening test labels [] place start = none_with (finished 0)
first_opening test labels (n ∷ ns) place start =
    cond (test (take n labels)) (found_at place start n)
    (first_opening test (drop n labels) ns (place + 1) (start + n))

-- what is refused of a key, an IV and a file of these lengths, and of the labels' lengths
unfoldable pub search_check : KeyAnswer → Bool → ℕ → ℕ → List ℕ → Checked
search_check a retired iv file lengths =
    and_then (key_and_iv a retired Decrypt Gcm iv)
    (refuse (any_too_long lengths) TooLong
    (data_check Decrypt Gcm file))

-- what was refused, or what comes next
abbrev pub checked_verdict : Checked → Verdict → Verdict
checked_verdict (Ok _) next = next
checked_verdict (Err r) next = none_with (refusal_head r)

-- the test: whether the file opens under a label, by round keys, H and J0
abbrev pub opens_file : List ℕ → ℕ → List ℕ → List ℕ → List ℕ → Bool
opens_file rk h j file label = opens_under rk h j label file

-- the same by the cipher of J0
abbrev pub opens_masked : List ℕ → ℕ → List ℕ → List ℕ → Bool
opens_masked mask h file label = same (tag_part file) (masked_tag mask h label (text_part file))

-- and by a key's record and an IV
abbrev pub opens_with : Sm4Cipher → List ℕ → List ℕ → List ℕ → Bool
opens_with c iv file label = opens_file c.rk (hash_key c.rk) (J0 c.rk iv) file label

-- the verdict on a key's record, a file, an IV and the candidates; a bad list is told before any key is looked at
unfoldable pub which : Sm4Cipher → List ℕ → List ℕ → List ℕ → List ℕ → Verdict
which c file iv labels lengths =
    cond (bad_list labels lengths) (none_with (refusal 16))
    (on_key (key_number c)
    (checked_verdict (search_check c.answer c.retired (length iv) (length file) lengths)
    (first_opening (opens_with c iv file) labels lengths 0 0)))

-- the label found, as a part of the buffer; empty in every other answer, and where the part lies outside
unfoldable pub part_of : Verdict → List ℕ → List ℕ
part_of v labels =
    cond v.found
    (cond (ltb (length labels) (v.start + v.size)) []
    (take v.size (drop v.start labels)))
    []

-- the verdict of what was found
abbrev pub found_verdict : Option Candidate → Verdict
found_verdict None = none_with (finished 0)
found_verdict (Some c) = found_at c.place c.start c.length

abbrev pub unanswered_head : Unanswered → Head
unanswered_head BadList = refusal 16
unanswered_head (RefusedHere r) = refusal_head r

abbrev pub ended_verdict : Result (Option Candidate) Unanswered → Verdict
ended_verdict (Ok found) = found_verdict found
ended_verdict (Err e) = none_with (unanswered_head e)

-- the verdict that an answer spells
abbrev pub verdict_of : Found → Verdict
verdict_of f = on_key f.key (ended_verdict f.ended)
