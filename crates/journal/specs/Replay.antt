-- Replay of a journal: the report, and where and why it ended.
use Rattle.std.specs.Prelude.{ℕ, zero, suc, ◌+◌, ◌≡◌, Bool, not, cond, Option, Some, None, Result, Ok, Err, List, eqb, length, drop}
use denote.Bor.{Bor}
use Rattle.cipher_mode.specs.declared.Sm4Cipher.{Sm4Cipher}
use Rattle.journal.specs.Format.{Entry, starts_record, size_at, front, too_long}
use Rattle.journal.specs.KeyList.{keys_in, has_number, key_of, bad_keys}
use Rattle.journal.specs.Recomputed.{recomputed, judged}
use Rattle.journal.specs.Reports.{nothing, counted}
use Rattle.journal.specs.declared.keys.Keys.{Keys}
use Rattle.journal.specs.declared.report.Report.{Report}
use Rattle.journal.specs.declared.Stop.{Stop}
use Rattle.journal.specs.declared.Stop.TheVariants.{BadRecord, TooLong, UnknownKey, BadKeys}
use Rattle.journal.specs.declared.Stopped.{Stopped}

-- the report of a whole journal, or of what is before the record at which replay stopped
abbrev pub Replayed : Type 0
Replayed = Result Report Stopped

-- why it stopped, if it did
abbrev pub ended : Replayed → Option Stop
ended (Ok r) = None
ended (Err x) = Some x.why

-- the place that is told: 0 where all is replayed
abbrev pub place_told : Replayed → ℕ
place_told (Ok r) = 0
place_told (Err x) = x.place

abbrev pub report_of : Replayed → Report
report_of (Ok r) = r
report_of (Err x) = x.report

abbrev pub number_of_end : Option Stop → ℕ
number_of_end None = 0
number_of_end (Some BadRecord) = 23
number_of_end (Some TooLong) = 24
number_of_end (Some UnknownKey) = 25
number_of_end (Some BadKeys) = 26

-- all is replayed
abbrev pub done : Report → Replayed
done r = Ok r

-- a refusal with the place of its record and the report so far
abbrev pub refused : Stop → ℕ → Report → Replayed
refused e place r = Err (record { why = e; place = place; report = r })

-- the same where the test holds; otherwise what comes next
abbrev pub refuse : Bool → Stop → ℕ → Report → Replayed → Replayed
refuse test e place r next = cond test (refused e place r) next

-- one more entry, made again on the key that it names
abbrev pub counted_under : List Sm4Cipher → Entry → ℕ → Report → Report
counted_under ks e place r = counted e (judged e (recomputed (key_of e.key ks) e)) place r

-- the record at the front of b, which stands at a place of the journal
unfoldable pub replay_one : List Sm4Cipher → List ℕ → ℕ → Report → Replayed
replay_one ks b place r =
    refuse (not (starts_record b)) BadRecord place r
    (refuse (too_long (front b)) TooLong place r
    (refuse (not (has_number (front b).key ks)) UnknownKey place r
    (done (counted_under ks (front b) place r))))

-- a turn: the record at the front of b was replayed, and what is behind it is left
pub record Turned (ks : List Sm4Cipher) (b : List ℕ) (place : ℕ) (r : Report) (turn : Report × Bor (List ℕ)) : Type 0 where
  pub counted : replay_one ks b place r ≡ Ok turn.0
  pub rest : turn.1.now ≡ drop (size_at b) b

-- the record there is refused, and why
abbrev pub StopsBy : List Sm4Cipher → List ℕ → ℕ → Report → Stop → Type 0
StopsBy ks b place r why = replay_one ks b place r ≡ refused why place r

-- what was refused, or what comes next
abbrev pub and_then : Replayed → (Report → Replayed) → Replayed
and_then (Ok r) next = next r
and_then (Err x) next = Err x

-- at most n records from the front of b on, which stands at a place of the journal
unfoldable pub replay_up_to : ℕ → List Sm4Cipher → List ℕ → ℕ → Report → Replayed
replay_up_to zero ks b place r = done r
replay_up_to (suc n) ks b place r =
    cond (eqb (length b) 0) (done r)
    (and_then (replay_one ks b place r) (λ r'. replay_up_to n ks (drop (size_at b) b) (place + size_at b) r'))

-- all of them: there are no more records than bytes
abbrev pub replay_from : List Sm4Cipher → List ℕ → ℕ → Report → Replayed
replay_from ks b place r = replay_up_to (length b) ks b place r

-- a journal; bad keys are told before any record
unfoldable pub replay : Keys → List ℕ → Replayed
replay k journal = refuse (bad_keys k) BadKeys 0 nothing (replay_from (keys_in k) journal 0 nothing)
