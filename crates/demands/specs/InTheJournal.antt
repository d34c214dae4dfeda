-- The exported replay of a journal: demand 1 of it, which number it ends with exactly when, what the reports of two journals make
-- together, and what it is for, that a night of calls is found as it was.
use Rattle.demands.specs.Names as N
use Rattle.std.specs.Prelude.{◌∷◌, ◌⊎◌, ◌≡◌, ◌+◌, ◌<◌, ◌≤◌}
use N.{cond, false, true, List, [], ℕ, eqb, length, Ends, Replayable, answer_now, Entry, output_limit, sums, bad_keys}
use N.{key_of_journal as key_of, keys_in, result_of, nothing, total, refused_journal as refused, BadKeys, Replayed, host_mode_call, keys_of, told_of_journal as told_of}
use N.{cipher_in, LuossavinKeys, LuossavinReplayed, LuossavinKey}
use Rattle.demands.specs.Answered.{one_of}

-- what a host is told where the keys are bad: 26, and nothing else
abbrev pub bad_keys_told : LuossavinReplayed
bad_keys_told = told_of (refused BadKeys 0 nothing)

-- x is what a host is told of a replay
pub record ReplayAnswered (x : LuossavinReplayed) : Type 0 where
  -- the number is one of those that the call can answer
  pub numbered : one_of x.number (0 ∷ 23 ∷ 24 ∷ 25 ∷ 26 ∷ []) ≡ true
  -- however it ended, calls by mode, and calls by answer, sum to the records replayed
  pub by_mode : total x.by_mode ≡ x.records
  pub by_answer : total x.by_answer ≡ x.records
  -- a journal that was replayed to its end has no place of a refusal, and bad keys are told before any record
  pub done : x.number ≡ 0 → x.place ≡ 0
  pub bad-keys : x.number ≡ 26 → x ≡ bad_keys_told
  -- whether a record differs is 1 or 0; the first that does is one of those replayed, and where none does nothing is said of it
  pub differs : (x.differs ≡ 1) ⊎ (x.differs ≡ 0)
  pub first : x.differs ≡ 1 → x.first_record < x.records
  pub none : x.differs ≡ 0 → (x.first_record ≡ 0) × (x.first_place ≡ 0)

-- x is how the replay ends, by what the keys are and what the journal holds
abbrev pub ReplayEnds : LuossavinKeys → List ℕ → Replayed → Type 0
ReplayEnds k journal x =
    ((bad_keys (keys_of k) ≡ true) × (x ≡ refused BadKeys 0 nothing))
    ⊎ ((bad_keys (keys_of k) ≡ false) × Ends (keys_in (keys_of k)) journal 0 nothing x)

-- z is what is told of two journals joined, the first of so many bytes, of which alone x and y are told
pub record Added (size : ℕ) (x y z : LuossavinReplayed) : Type 0 where
  pub number : z.number ≡ y.number
  pub place : z.place ≡ cond (eqb y.number 0) 0 (size + y.place)
  pub records : z.records ≡ x.records + y.records
  pub by_mode : z.by_mode ≡ sums x.by_mode y.by_mode
  pub by_answer : z.by_answer ≡ sums x.by_answer y.by_answer
  pub bytes_in : z.bytes_in ≡ x.bytes_in + y.bytes_in
  pub bytes_out : z.bytes_out ≡ x.bytes_out + y.bytes_out
  -- the first's difference, or else the second's, counted from the first's start
  pub earlier : x.differs ≡ 1
      → (z.differs ≡ 1) × (z.first_record ≡ x.first_record) × (z.first_place ≡ x.first_place)
  pub later : x.differs ≡ 0 → y.differs ≡ 1
      → (z.differs ≡ 1) × (z.first_record ≡ x.records + y.first_record) × (z.first_place ≡ size + y.first_place)
  pub none : x.differs ≡ 0 → y.differs ≡ 0 → z.differs ≡ 0

-- e is a call that a host made under one of the keys, into an output that it lent, recorded with the answer that it was given. A mode above
-- 4 may be recorded as any that is, and a room of 16,400 bytes or more, which no such call passes, as any that is.
pub record Recorded (keys : LuossavinKeys) (e : Entry) : Type 0 where
  pub replayable : Replayable (keys_in (keys_of keys)) e
  pub key : LuossavinKey
  pub lent : cipher_in key ≡ key_of e.key (keys_in (keys_of keys))
  pub mode : ℕ
  pub same-mode : (mode ≡ e.mode) ⊎ ((4 < mode) × (4 < e.mode))
  pub out : List ℕ
  pub room : (length out ≡ e.room) ⊎ ((output_limit ≤ length out) × (output_limit ≤ e.room))
  pub number : e.number ≡ (host_mode_call e.direction mode key e.label e.«data» e.iv out).head.number
  pub output : e.output ≡ result_of (host_mode_call e.direction mode key e.label e.«data» e.iv out)

abbrev pub AllRecorded : LuossavinKeys → List Entry → Type 0
AllRecorded keys [] = Unit {0}
AllRecorded keys (e ∷ es) = Recorded keys e × AllRecorded keys es

-- each call answers now what was recorded of it
abbrev pub AllAnswered : LuossavinKeys → List Entry → Type 0
AllAnswered keys [] = Unit {0}
AllAnswered keys (e ∷ es) =
    ((e.number ≡ (answer_now (keys_in (keys_of keys)) e).head.number) × (e.output ≡ result_of (answer_now (keys_in (keys_of keys)) e)))
    × AllAnswered keys es
