-- The reports of two journals added, as the report of the two joined: the second's records come behind the first's.
use Rattle.std.specs.Prelude.{ℕ, ◌+◌, Option, Some, None, Ok, Err, List, [], ◌∷◌}
use Rattle.journal.specs.Replay.{Replayed, done, refused}
use Rattle.journal.specs.declared.report.Difference.{Difference}
use Rattle.journal.specs.declared.report.Report.{Report}

-- counts, place by place
unfoldable pub sums : List ℕ → List ℕ → List ℕ
sums [] b = []
sums (x ∷ a) [] = []
sums (x ∷ a) (y ∷ b) = (x + y) ∷ sums a b

-- the first's difference, or the second's, behind so many records and bytes
abbrev pub earlier : Option Difference → ℕ → ℕ → Option Difference → Option Difference
earlier (Some d) records size e = Some d
earlier None records size (Some e) = Some (record { index = records + e.index; place = size + e.place })
earlier None records size None = None

-- the report s behind the report r of a journal of so many bytes
unfoldable pub added : ℕ → Report → Report → Report
added size r s =
    record {
      records = r.records + s.records;
      by_mode = sums r.by_mode s.by_mode;
      by_answer = sums r.by_answer s.by_answer;
      bytes_in = r.bytes_in + s.bytes_in;
      bytes_out = r.bytes_out + s.bytes_out;
      first = earlier r.first r.records size s.first;
    }

-- how the two end, where the first was replayed to its end: as the second does, at a place that is counted from the first's start
unfoldable pub behind_report : ℕ → Report → Replayed → Replayed
behind_report size r (Ok s) = done (added size r s)
behind_report size r (Err x) = refused x.why (size + x.place) (added size r x.report)
