-- The report of a replay, and what one more record makes of it.
use Rattle.std.specs.Prelude.{ℕ, suc, ◌+◌, ◌≤◌, ◌<◌, ◌≡◌, Bool, cond, List, [], ◌∷◌, ltb, length, get_or, set, replicate}
use Rattle.std.specs.Prelude.{Option, Some, None}
use Rattle.block.specs.Below.{Below}
use Rattle.journal.specs.Format.{Entry}
use Rattle.journal.specs.declared.again.Recomputed.{Recomputed}
use Rattle.journal.specs.declared.report.Difference.{Difference}
use Rattle.journal.specs.declared.report.Report.{Report}

-- before the first record
abbrev pub nothing : Report
nothing =
    record {
      records = 0;
      by_mode = replicate 6 0;
      by_answer = replicate 32 0;
      bytes_in = 0;
      bytes_out = 0;
      first = None;
    }

-- one more at place i
abbrev pub one_more : ℕ → List ℕ → List ℕ
one_more i counts = set counts i (get_or counts i 0 + 1)

-- the modes above 4 are counted together
abbrev pub mode_place : ℕ → ℕ
mode_place mode = cond (ltb 4 mode) 5 mode

-- the first difference, where the record at a place, with so many before it, differs or does not
abbrev pub first_of : Bool → ℕ → ℕ → Option Difference → Option Difference
first_of differs records place (Some d) = Some d
first_of differs records place None = cond differs (Some (record { index = records; place = place })) None

-- one more record at a place: the entry e, which was judged x
unfoldable pub counted : Entry → Recomputed → ℕ → Report → Report
counted e x place r =
    record {
      records = r.records + 1;
      by_mode = one_more (mode_place e.mode) r.by_mode;
      by_answer = one_more x.number r.by_answer;
      bytes_in = r.bytes_in + length e.«data»;
      bytes_out = r.bytes_out + x.length;
      first = first_of x.differs r.records place r.first;
    }

-- no count is above n
pub record Within (n : ℕ) (r : Report) : Type 0 where
  pub records : r.records ≤ n
  pub by_mode : Below (suc n) r.by_mode
  pub by_answer : Below (suc n) r.by_answer
  pub bytes_in : r.bytes_in ≤ n
  pub bytes_out : r.bytes_out ≤ n

unfoldable pub total : List ℕ → ℕ
total [] = 0
total (n ∷ ns) = n + total ns

-- the calls by mode, and those by answer, sum to the records
pub record AddsUp (r : Report) : Type 0 where
  pub modes : length r.by_mode ≡ 6
  pub answers : length r.by_answer ≡ 32
  pub by_mode : total r.by_mode ≡ r.records
  pub by_answer : total r.by_answer ≡ r.records

-- a first difference, of so many records: it is one of them, or there is none
abbrev pub OfRecords : ℕ → Option Difference → Type 0
OfRecords n (Some d) = d.index < n
OfRecords n None = Unit {0}
