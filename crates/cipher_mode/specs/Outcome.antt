-- What a call leaves: its number, its length, and every byte of the output. The numbers are those of docs/NUMBERS.md.
use Rattle.std.specs.Prelude.{ℕ, Bool, ◌&&◌, cond, List, eqb, length, take}
use Rattle.block.specs.Over.{over}

-- what a call reports
pub record Head : Type 0 where
  -- 0 for done, otherwise the refusal
  pub number : ℕ
  -- how many bytes of the output are the result
  pub size : ℕ
  -- of refusal 9, how many bytes were missing; otherwise 0
  pub missing : ℕ
  -- 1 where the counter of a message came round, otherwise 0
  pub came_round : ℕ
  -- the number of the key that the call stands on, 0 where none stands yet
  pub key : ℕ

pub record Outcome : Type 0 where
  pub head : Head
  -- the whole output buffer
  pub bytes : List ℕ

-- what a report and the output o are together
abbrev pub leaving : Head → List ℕ → Outcome
leaving h o = record { head = h; bytes = o }

-- done, with n bytes
abbrev pub finished : ℕ → Head
finished n = record { number = 0; size = n; missing = 0; came_round = 0; key = 0 }

-- a refusal reports its number, and 0 in every other field
abbrev pub refusal : ℕ → Head
refusal n = record { number = n; size = 0; missing = 0; came_round = 0; key = 0 }

-- but for refusal 9, which tells that k bytes were missing
abbrev pub cut_short : ℕ → Head
cut_short k = record { number = 9; size = 0; missing = k; came_round = 0; key = 0 }

-- the same report, on the key of number k
abbrev pub under : ℕ → Head → Head
under k h = record { number = h.number; size = h.size; missing = h.missing; came_round = h.came_round; key = k }

-- the same outcome, on the key of number k
abbrev pub keyed : ℕ → Outcome → Outcome
keyed k x = leaving (under k x.head) x.bytes

-- the same report, saying whether a counter came round
abbrev pub telling : Bool → Head → Head
telling b h = record { number = h.number; size = h.size; missing = h.missing; came_round = cond b 1 0; key = h.key }

-- the same outcome, which, where it is done, says whether a counter came round; a refusal says no
abbrev pub reporting : Bool → Outcome → Outcome
reporting b x = leaving (telling (eqb x.head.number 0 && b) x.head) x.bytes

-- refused: the output o is as it was lent
abbrev pub refused : ℕ → List ℕ → Outcome
refused n o = record { head = refusal n; bytes = o }

-- where the test holds, refusal n; otherwise what comes next
abbrev pub refuse : Bool → ℕ → List ℕ → Outcome → Outcome
refuse test n o next = cond test (refused n o) next

-- what h reports of p stands at the front of the output, and the rest of it is as it was lent
abbrev pub written : Head → List ℕ → List ℕ → Outcome
written h p o = record { head = h; bytes = over (take h.size p) o }

-- done: all of p stands at the front of the output
abbrev pub done : List ℕ → List ℕ → Outcome
done p o = record { head = finished (length p); bytes = over p o }
