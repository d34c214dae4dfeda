-- The question whether a file opens under a job and an edition, as a property of any that is asked so, beside any call that opens
-- sealed messages.
use Rattle.demands.specs.Names as N
use Rattle.std.specs.Prelude.{◌≢◌, ◌⊎◌, ◌≡◌, ◌+◌, ◌-◌, ◌<◌, ◌^◌, ◌≤◌}
use N.{false, true, List, ℕ, drop, length, take, Head, Outcome, refusal, bad_list, label_at, none_with, label_of, Told, told_of}
use Rattle.demands.specs.Call.{Call}

-- a question with its key, by what it answers to a job, an edition, a file and an IV
abbrev pub Question : Type 0
Question = ℕ → ℕ → List ℕ → List ℕ → Head

-- the answer h is that of the call which left x, but no text was made: it has no length, and says nothing of a counter
pub record WithoutText (h : Head) (x : Outcome) : Type 0 where
  pub number : h.number ≡ x.head.number
  pub missing : h.missing ≡ x.head.missing
  pub key : h.key ≡ x.head.key
  pub size : h.size ≡ 0
  pub came_round : h.came_round ≡ 0

-- it answers what the opening call answers under the label of the job and the edition, into any output that has room for the text
abbrev pub AnswersAsOpening : Question → Call → Type 0
AnswersAsOpening asked opening =
    (job edition : ℕ) (file iv o : List ℕ) → length file - 16 ≤ length o
    → WithoutText (asked job edition file iv) (opening (label_of job edition) file iv o)

-- it is never refused for room
abbrev pub NeverNoRoom : Question → Type 0
NeverNoRoom asked = (job edition : ℕ) (file iv : List ℕ) → (asked job edition file iv).number ≢ 6

-- If it answers 0 for one job and edition, it answers 4 for every other. A job is a number of four bytes, an edition one of two.
abbrev pub OneEditionAlone : Question → Type 0
OneEditionAlone asked =
    (job₁ job₂ edition₁ edition₂ : ℕ) (file iv : List ℕ)
    → job₁ < 2 ^ 32 → job₂ < 2 ^ 32 → edition₁ < 2 ^ 16 → edition₂ < 2 ^ 16
    → (job₁ ≢ job₂) ⊎ (edition₁ ≢ edition₂)
    → (asked job₁ edition₁ file iv).number ≡ 0 → (asked job₂ edition₂ file iv).number ≡ 4

-- Which of many labels a file opens under, as a property of what a host is told beside any call that opens sealed messages.

-- the call answers n to candidate i
abbrev pub AnswersTo : Call → List ℕ → List ℕ → List ℕ → List ℕ → List ℕ → ℕ → ℕ → Type 0
AnswersTo opening file iv labels lengths o i n = (opening (label_at labels lengths i) file iv o).head.number ≡ n

-- candidate i is the first that opens the file: the call answers 0 to it, and 4 to each before it
pub record FirstThatOpens (opening : Call) (file iv labels lengths o : List ℕ) (i : ℕ) : Type 0 where
  pub inside : i < length lengths
  pub opens : AnswersTo opening file iv labels lengths o i 0
  pub before : (j : ℕ) → j < i → AnswersTo opening file iv labels lengths o j 4

-- none opens it: the call answers 4 to all
abbrev pub NoneOpens : Call → List ℕ → List ℕ → List ℕ → List ℕ → List ℕ → Type 0
NoneOpens opening file iv labels lengths o = (i : ℕ) → i < length lengths → AnswersTo opening file iv labels lengths o i 4

-- What is told, where it is no refusal, is found at i exactly when candidate i is the first that opens the file, and none exactly when none
-- opens it; and the part of the buffer that is told is the candidate. The call is lent the output o.
pub record Tells (opening : Call) (file iv labels lengths o : List ℕ) (v : Told) : Type 0 where
  pub found : v.found ≡ 1 → FirstThatOpens opening file iv labels lengths o v.place
  pub tells_found : v.head.number ≡ 0 → (i : ℕ) → FirstThatOpens opening file iv labels lengths o i → (v.found ≡ 1) × (v.place ≡ i)
  pub none : v.head.number ≡ 0 → v.found ≡ 0 → NoneOpens opening file iv labels lengths o
  pub is_none : v.head.number ≡ 0 → NoneOpens opening file iv labels lengths o → v.found ≡ 0
  pub part : v.found ≡ 1 → take v.size (drop v.start labels) ≡ label_at labels lengths v.place

-- Demand 1 of the question, on the key of number k: what is told besides its number and how many bytes were missing.
pub record WhichAnswered (k : ℕ) (labels lengths : List ℕ) (v : Told) : Type 0 where
  -- refused or done, the key's number is repeated; a bad list is told before any key is looked at, and nothing beside it
  pub key : bad_list labels lengths ≡ false → v.head.key ≡ k
  pub bad : bad_list labels lengths ≡ true → v ≡ told_of (none_with (refusal 16))
  -- nothing is written
  pub size : v.head.size ≡ 0
  -- found is 1 or 0, and 1 in no refusal
  pub either : (v.found ≡ 1) ⊎ (v.found ≡ 0)
  pub refused : v.head.number ≢ 0 → v.found ≡ 0
  -- what is found lies inside the lent buffer; in every other answer the part is empty, and place and start are 0
  pub inside : v.found ≡ 1 → v.start + v.size ≤ length labels
  pub empty : v.found ≡ 0 → (v.place ≡ 0) × (v.start ≡ 0) × (v.size ≡ 0)
