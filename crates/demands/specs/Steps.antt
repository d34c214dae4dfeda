-- Demand 1 of the calls on messages in pieces: what a caller may count on, refused or done.
use Rattle.demands.specs.Names as N
use Rattle.std.specs.Prelude.{◌∷◌, ◌≢◌, ◌≡◌}
use N.{List, [], ℕ, Outcome, leaving, refusal, under, Stepped, ctr_end, ctr_piece, opens_end, opens_piece, seal_end, seal_piece}
use N.{CtrState as Ctr, Opens, Seal}
use Rattle.demands.specs.Answered.{Answered}

-- what a step leaves besides its state
abbrev pub outcome_of : (S : Type 0) → Stepped S → Outcome
outcome_of S x = leaving x.head x.bytes

-- the key's number that a state carries
abbrev pub ctr_key : Ctr → ℕ
ctr_key s = s.key

abbrev pub seal_key : Seal → ℕ
seal_key s = s.key

abbrev pub opens_key : Opens → ℕ
opens_key s = s.key

-- the numbers that a call on a message in pieces can answer
abbrev pub piece_numbers : List ℕ
piece_numbers = 0 ∷ 1 ∷ 4 ∷ 5 ∷ 6 ∷ 9 ∷ 10 ∷ 12 ∷ 13 ∷ 14 ∷ []

-- x is an answer to a call on the state s whose output was lent as o, where a success has the length n; `number` is the key's
-- number that a state carries
pub record StepAnswered (S : Type 0) (number : S → ℕ) (s : S) (o : List ℕ) (n : ℕ) (x : Stepped S) : Type 0 where
  pub answered : Answered piece_numbers (number s) o n (outcome_of S x)
  -- and the next state carries it on
  pub carried : number x.state ≡ number s
  -- every refusal leaves the state as it came, but for 4, which is the end of an opening
  pub unmoved : x.head.number ≢ 0 → x.head.number ≢ 4 → x.state ≡ s

-- the number n on the key of number k, and neither state nor output changed
abbrev pub turned : (S : Type 0) → ℕ → ℕ → S → List ℕ → Stepped S
turned S k n s o = record { head = under k (refusal n); bytes = o; state = s }

-- s is the state of no message: every call on it answers the number n and changes nothing
pub record NoCtr (n : ℕ) (s : Ctr) : Type 0 where
  pub piece : (e o : List ℕ) → ctr_piece s e o ≡ turned Ctr s.key n s o
  pub end : ctr_end s ≡ turned Ctr s.key n s []

pub record NoSeal (n : ℕ) (s : Seal) : Type 0 where
  pub piece : (e o : List ℕ) → seal_piece s e o ≡ turned Seal s.key n s o
  pub end : (o : List ℕ) → seal_end s o ≡ turned Seal s.key n s o

pub record NoOpens (n : ℕ) (s : Opens) : Type 0 where
  pub piece : (e : List ℕ) → opens_piece s e ≡ turned Opens s.key n s []
  pub end : (tag : List ℕ) → opens_end s tag ≡ turned Opens s.key n s []
