-- A message in pieces, as properties of any calls on states of a kind S: whatever the cuts are, empty ones too, the pieces give
-- what the single call gives.
use Rattle.demands.specs.Names as N
use Rattle.std.specs.Prelude.{◌++◌, ◌∷◌, ◌≢◌, ◌≡◌, ◌+◌, ◌≤◌}
use N.{true, List, [], ℕ, length, take, Outcome, leaving, limit, Stepped}
use Rattle.demands.specs.Answered.{one_of}
use Rattle.demands.specs.Call.{Call, result}

-- a call answered 0 with n bytes
pub record Did (S : Type 0) (n : ℕ) (x : Stepped S) : Type 0 where
  pub number : x.head.number ≡ 0
  pub size : x.head.size ≡ n

-- what a call wrote: the bytes of its output up to the length that it reports
abbrev pub written : (S : Type 0) → Stepped S → List ℕ
written S x = take x.head.size x.bytes

-- Calls on pieces of a kind P, one after the other, from the state s on: the state after them,
abbrev pub state_after : (S P : Type 0) → (S → P → Stepped S) → S → List P → S
state_after S P call s [] = s
state_after S P call s (p ∷ ps) = state_after S P call (call s p).state ps

-- what they wrote, joined,
abbrev pub wrote : (S P : Type 0) → (S → P → Stepped S) → S → List P → List ℕ
wrote S P call s [] = []
wrote S P call s (p ∷ ps) = written S (call s p) ++ wrote S P call (call s p).state ps

-- and that each answered 0 with as many bytes as it should
abbrev pub AllDid : (S P : Type 0) → (S → P → Stepped S) → (P → ℕ) → S → List P → Type 0
AllDid S P call size s [] = Unit {0}
AllDid S P call size s (p ∷ ps) = Did S (size p) (call s p) × AllDid S P call size (call s p).state ps

-- or that each answered 0
abbrev pub AllZero : (S P : Type 0) → (S → P → Stepped S) → S → List P → Type 0
AllZero S P call s [] = Unit {0}
AllZero S P call s (p ∷ ps) = ((call s p).head.number ≡ 0) × AllZero S P call (call s p).state ps

-- a piece of a message, and the output that is lent for it
pub record Piece : Type 0 where
  pub text : List ℕ
  pub out : List ℕ

-- the call on a piece
abbrev pub onto : (S : Type 0) → (S → List ℕ → List ℕ → Stepped S) → S → Piece → Stepped S
onto S piece s p = piece s p.text p.out

-- the length of a piece
abbrev pub size_of : Piece → ℕ
size_of p = length p.text

-- what all of them bring, joined, and what holds of each
abbrev pub gathered : (P : Type 0) → (P → List ℕ) → List P → List ℕ
gathered P content [] = []
gathered P content (p ∷ ps) = content p ++ gathered P content ps

abbrev pub Every : (P : Type 0) → (P → Type 0) → List P → Type 0
Every P Holds [] = Unit {0}
Every P Holds (p ∷ ps) = Holds p × Every P Holds ps

-- the message that the pieces make
abbrev pub whole : List Piece → List ℕ
whole ps = gathered Piece (λ p. p.text) ps

-- an output has room for its piece, and each does
abbrev pub Room : Piece → Type 0
Room p = length p.text ≤ length p.out

abbrev pub Roomy : List Piece → Type 0
Roomy ps = Every Piece Room ps

-- all answered 0: the start with no bytes, each piece with its own length, the end with n
pub record AllDone (S : Type 0) (call : S → Piece → Stepped S) (started : Stepped S) (ps : List Piece) (n : ℕ) (ended : Stepped S)
    : Type 0 where
  pub start : Did S 0 started
  pub pieces : AllDid S Piece call size_of started.state ps
  pub end : Did S n ended

-- an end tells of the counter what the single call tells
abbrev pub TellsAlike : (S : Type 0) → Stepped S → Outcome → Type 0
TellsAlike S end single = end.head.came_round ≡ single.head.came_round

-- Whenever the single call encrypts the whole, so do start, pieces and end, with its bytes, and the end tells of the counter what it
-- tells. Ctr has no label.
abbrev pub CtrInPieces : (S : Type 0) → (List ℕ → Stepped S) → (S → List ℕ → List ℕ → Stepped S) → (S → Stepped S) → Call → Type 0
CtrInPieces S start piece end single =
    (ps : List Piece) (label iv o : List ℕ) → Roomy ps → (single label (whole ps) iv o).head.number ≡ 0
    → AllDone S (onto S piece) (start iv) ps 0 (end (state_after S Piece (onto S piece) (start iv).state ps))
    × (wrote S Piece (onto S piece) (start iv).state ps ≡ result (single label (whole ps) iv o))
    × TellsAlike S (end (state_after S Piece (onto S piece) (start iv).state ps)) (single label (whole ps) iv o)

-- Whenever the single call seals the whole, so do start, pieces and end: the pieces write its ciphertext, and the end, given an
-- output t with room, its tag, and it tells of the counter what the single call tells.
abbrev pub SealInPieces : (S : Type 0) → (List ℕ → List ℕ → Stepped S) → (S → List ℕ → List ℕ → Stepped S)
    → (S → List ℕ → Stepped S) → Call → Type 0
SealInPieces S start piece end single =
    (ps : List Piece) (label iv t o : List ℕ) → Roomy ps → 16 ≤ length t → (single label (whole ps) iv o).head.number ≡ 0
    → AllDone S (onto S piece) (start label iv) ps 16 (end (state_after S Piece (onto S piece) (start label iv).state ps) t)
    × (wrote S Piece (onto S piece) (start label iv).state ps
    ++ written S (end (state_after S Piece (onto S piece) (start label iv).state ps) t)
    ≡ result (single label (whole ps) iv o))
    × TellsAlike S (end (state_after S Piece (onto S piece) (start label iv).state ps) t) (single label (whole ps) iv o)

-- And the other way about: where start, pieces and end all answer 0, so does the single call, given room for the whole, with the bytes
-- that they wrote, and it tells of the counter what the end tells.
abbrev pub CtrOfPieces : (S : Type 0) → (List ℕ → Stepped S) → (S → List ℕ → List ℕ → Stepped S) → (S → Stepped S) → Call → Type 0
CtrOfPieces S start piece end single =
    (ps : List Piece) (label iv o : List ℕ) → length (whole ps) ≤ length o
    → (start iv).head.number ≡ 0 → AllZero S Piece (onto S piece) (start iv).state ps
    → (end (state_after S Piece (onto S piece) (start iv).state ps)).head.number ≡ 0
    → ((single label (whole ps) iv o).head.number ≡ 0)
    × (wrote S Piece (onto S piece) (start iv).state ps ≡ result (single label (whole ps) iv o))
    × TellsAlike S (end (state_after S Piece (onto S piece) (start iv).state ps)) (single label (whole ps) iv o)

abbrev pub SealOfPieces : (S : Type 0) → (List ℕ → List ℕ → Stepped S) → (S → List ℕ → List ℕ → Stepped S)
    → (S → List ℕ → Stepped S) → Call → Type 0
SealOfPieces S start piece end single =
    (ps : List Piece) (label iv t o : List ℕ) → length (whole ps) + 16 ≤ length o
    → (start label iv).head.number ≡ 0 → AllZero S Piece (onto S piece) (start label iv).state ps
    → (end (state_after S Piece (onto S piece) (start label iv).state ps) t).head.number ≡ 0
    → ((single label (whole ps) iv o).head.number ≡ 0)
    × (wrote S Piece (onto S piece) (start label iv).state ps
    ++ written S (end (state_after S Piece (onto S piece) (start label iv).state ps) t)
    ≡ result (single label (whole ps) iv o))
    × TellsAlike S (end (state_after S Piece (onto S piece) (start label iv).state ps) t) (single label (whole ps) iv o)

-- the ciphertext that the pieces make which an opening takes; they lend no output
abbrev pub joined : List (List ℕ) → List ℕ
joined cs = gathered (List ℕ) (λ c. c) cs

abbrev pub none : List ℕ → ℕ
none c = 0

-- Whenever the start answers 0 and the ciphertext is within the limit, every piece of it is taken, and the end, with a tag of
-- sixteen bytes, answers the number that the single call, given room, answers to the ciphertext and that tag: 0 exactly where
-- it opens, and otherwise 4; and it tells of the counter what the single call tells.
abbrev pub OpensInPieces : (S : Type 0) → (List ℕ → List ℕ → Stepped S) → (S → List ℕ → Stepped S) → (S → List ℕ → Stepped S) → Call
    → Type 0
OpensInPieces S start piece end single =
    (cs : List (List ℕ)) (label iv tag o : List ℕ) → length (joined cs) ≤ limit → length (joined cs) ≤ length o → length tag ≡ 16
    → (start label iv).head.number ≡ 0
    → AllDid S (List ℕ) piece none (start label iv).state cs
    × ((end (state_after S (List ℕ) piece (start label iv).state cs) tag).head.number ≡ (single label (joined cs ++ tag) iv o).head.number)
    × TellsAlike S (end (state_after S (List ℕ) piece (start label iv).state cs) tag) (single label (joined cs ++ tag) iv o)

-- The other way about: where start, pieces and end all answer 0, so does the single call, given room.
abbrev pub OpensOfPieces : (S : Type 0) → (List ℕ → List ℕ → Stepped S) → (S → List ℕ → Stepped S) → (S → List ℕ → Stepped S) → Call
    → Type 0
OpensOfPieces S start piece end single =
    (cs : List (List ℕ)) (label iv tag o : List ℕ) → length (joined cs) ≤ length o
    → (start label iv).head.number ≡ 0 → AllZero S (List ℕ) piece (start label iv).state cs
    → (end (state_after S (List ℕ) piece (start label iv).state cs) tag).head.number ≡ 0
    → (single label (joined cs ++ tag) iv o).head.number ≡ 0

-- A start is checked as the single call is. Where it is refused, the single call of any data is refused with its report and leaves the
-- output as it was lent; where it answers 0, the single call of the least data that there is, given room for it, gives one of `answers`.
pub record CheckedAlike (S : Type 0) (least : List ℕ) (room : ℕ) (answers : List ℕ) (started : Stepped S)
    (single : List ℕ → List ℕ → Outcome) : Type 0 where
  pub refused : started.head.number ≢ 0 → (d o : List ℕ) → single d o ≡ leaving started.head o
  pub begun : started.head.number ≡ 0 → (o : List ℕ) → room ≤ length o → one_of (single least o).head.number answers ≡ true
