-- The exported call that replays a journal: what a host is told. It is the replay of `journal` on the records that the host's are.
use Rattle.std.specs.Prelude.{ℕ, cond, List, map, Option, is_some, unwrap_or}
use Rattle.journal.specs.Replay.{Replayed, ended, place_told, report_of, number_of_end, replay}
use Rattle.journal.specs.declared.keys.Keys.{Keys}
use Rattle.journal.specs.declared.report.Difference.{Difference}
use Rattle.luossavin.specs.declared.journals.LuossavinKeys.{LuossavinKeys}
use Rattle.luossavin.specs.declared.journals.LuossavinReplayed.{LuossavinReplayed}
use Rattle.luossavin.specs.Key.{cipher_in}

-- what a host's keys are, each record by itself; the count is as it came, above eight too
unfoldable pub keys_of : LuossavinKeys → Keys
keys_of k = record { count = k.count; keys = map cipher_in k.keys }

-- whether a record differs, as 1 or 0
abbrev pub differs_told : Option Difference → ℕ
differs_told first = cond (is_some first) 1 0

-- the first record that differs; where none does, zeros
abbrev pub difference_told : Option Difference → Difference
difference_told first = unwrap_or first (record { index = 0; place = 0 })

-- what a host is told of a replay
unfoldable pub told_of : Replayed → LuossavinReplayed
told_of x = record {
  number = number_of_end (ended x);
  differs = differs_told (report_of x).first;
  place = place_told x;
  first_record = (difference_told (report_of x).first).index;
  first_place = (difference_told (report_of x).first).place;
  records = (report_of x).records;
  by_mode = (report_of x).by_mode;
  by_answer = (report_of x).by_answer;
  bytes_in = (report_of x).bytes_in;
  bytes_out = (report_of x).bytes_out;
}

unfoldable pub host_replay : LuossavinKeys → List ℕ → LuossavinReplayed
host_replay k file = told_of (replay (keys_of k) file)
