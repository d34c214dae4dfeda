-- The exported calls on ranges and plans: which number each answers, a row a condition, in the order in which they are asked; what the
-- planner hands out; and what workers leave that each do their share.
use Rattle.demands.specs.Names as N
use Rattle.std.specs.Prelude.{◌||◌, ◌++◌, ◌∷◌, ◌≢◌, ◌⊎◌, ◌≡◌, ◌+◌, ◌≤◌}
use N.{Bool, false, not, true, List, [], foldr, ℕ, eqb, ltb, drop, get_or, length, take, Outcome, finished, leaving, refusal, telling}
use N.{limit, accepts, no_pieces, piece_size, Share, laid_at, share_of, Plan, host_mode_call, direction_of, Handed, host_ctr_range}
use N.{LuossavinKey}
use Rattle.demands.specs.Call.{Call, result}
use Rattle.demands.specs.WhichNumber.{Row, row, key_rows, retired_rows}

-- the stretch d at `offset`
abbrev pub range_rows : LuossavinKey → Bool → List ℕ → ℕ → List ℕ → List ℕ → List Row
range_rows k decrypt iv offset d o =
    key_rows k
    ++ (row (not (eqb (length iv) 16)) 10
    ∷ retired_rows (direction_of decrypt) k
    ++ (row (ltb limit (offset + length d)) 5
    ∷ row (ltb (length o) (length d)) 6
    ∷ []))

-- the data d by a plan
abbrev pub plan_rows : LuossavinKey → Bool → List ℕ → Plan → List ℕ → List ℕ → List Row
plan_rows k decrypt iv plan d o =
    key_rows k
    ++ (row (not (eqb (length iv) 16)) 10
    ∷ retired_rows (direction_of decrypt) k
    ++ (row (ltb limit (length d)) 5
    ∷ row (not (accepts plan (length d))) 18
    ∷ row (ltb (length o) (length d)) 6
    ∷ []))

-- a plan for n bytes and so many workers
abbrev pub make_rows : ℕ → ℕ → List Row
make_rows n workers =
    row (eqb workers 0 || ltb 64 workers) 17
    ∷ row (ltb limit n) 5
    ∷ []

-- the numbers that a range can answer, and those of work by a plan
abbrev pub range_numbers : List ℕ
range_numbers = 0 ∷ 1 ∷ 5 ∷ 6 ∷ 10 ∷ 13 ∷ 14 ∷ []

abbrev pub plan_numbers : List ℕ
plan_numbers = 0 ∷ 1 ∷ 5 ∷ 6 ∷ 10 ∷ 13 ∷ 14 ∷ 18 ∷ []

-- x is what the planner hands out for n bytes and so many workers
pub record PlanHanded (n workers : ℕ) (x : Handed) : Type 0 where
  -- 0, 5 or 17, and nothing beside it
  pub answered : (x.head ≡ finished 0) ⊎ (x.head ≡ refusal 5) ⊎ (x.head ≡ refusal 17)
  pub refused : x.head.number ≢ 0 → x.plan ≡ no_pieces
  pub accepted : x.head.number ≡ 0 → accepts x.plan n ≡ true
  pub few : x.head.number ≡ 0 → x.plan.count ≤ workers
  pub short : x.head.number ≡ 0 → (i : ℕ) → get_or x.plan.lengths i 0 ≤ piece_size n workers
  pub unused : (i : ℕ) → x.plan.count ≤ i → (get_or x.plan.starts i 0 ≡ 0) × (get_or x.plan.lengths i 0 ≡ 0)

-- an outcome without its word of a counter
abbrev pub unsaid : Outcome → Outcome
unsaid x = leaving (telling false x.head) x.bytes

-- a call on ranges: a key's record, whether it decrypts, the IV, the offset, the data and the output as it was lent
abbrev pub RangeCall : Type 0
RangeCall = LuossavinKey → Bool → List ℕ → ℕ → List ℕ → List ℕ → Outcome

-- the exported single call in Ctr
abbrev pub ctr_call : LuossavinKey → Bool → Call
ctr_call k decrypt = host_mode_call (direction_of decrypt) 2 k

-- Whenever the single call answers 0 to a text, the range of a stretch d of it, given room, answers 0 with that stretch of its result,
-- whatever is before and behind it; and whenever a range answers 0, the single call, given room, answers 0 to a text that ends with it.
pub record StretchOfWhole (range : RangeCall) (single : LuossavinKey → Bool → Call) : Type 0 where
  pub stretch : (k : LuossavinKey) (decrypt : Bool) (label iv pre d post o o' : List ℕ) → length d ≤ length o
      → (single k decrypt label (pre ++ (d ++ post)) iv o').head.number ≡ 0
      → ((range k decrypt iv (length pre) d o).head.number ≡ 0)
      × (result (range k decrypt iv (length pre) d o)
      ≡ take (length d) (drop (length pre) (result (single k decrypt label (pre ++ (d ++ post)) iv o'))))
  pub whole : (k : LuossavinKey) (decrypt : Bool) (label iv pre d o o' : List ℕ) → length (pre ++ d) ≤ length o'
      → (range k decrypt iv (length pre) d o).head.number ≡ 0
      → (single k decrypt label (pre ++ d) iv o').head.number ≡ 0

-- a range to apply to a text, with the output that is lent for it
pub record Applying : Type 0 where
  pub key : LuossavinKey
  pub decrypt : Bool
  pub iv : List ℕ
  pub share : Share
  pub out : List ℕ

-- the text t after it: what the call gives of the range stands in its place, and where it is refused nothing does
abbrev pub applied_by : RangeCall → Applying → List ℕ → List ℕ
applied_by range a t =
    laid_at a.share.start (result (range a.key a.decrypt a.iv a.share.start (share_of a.share t) a.out)) t

-- Two ranges applied to one text through the call leave the same bytes in either order, overlapping or not, done or refused.
abbrev pub RangesCommute : RangeCall → Type 0
RangesCommute range = (a b : Applying) (t : List ℕ) → applied_by range a (applied_by range b t) ≡ applied_by range b (applied_by range a t)

-- the output o after a worker's call on its share of the text d, which is lent that share of the output and nothing else of it
abbrev pub worked_by : LuossavinKey → Bool → List ℕ → List ℕ → Share → List ℕ → List ℕ
worked_by k decrypt iv d p o = laid_at p.start (host_ctr_range k decrypt iv p.start (share_of p d) (share_of p o)).bytes o

-- and after the calls of all workers, one after the other: the last of the list is the first to work
abbrev pub all_worked_by : LuossavinKey → Bool → List ℕ → List ℕ → List Share → List ℕ → List ℕ
all_worked_by k decrypt iv d ps o = foldr (worked_by k decrypt iv d) o ps
