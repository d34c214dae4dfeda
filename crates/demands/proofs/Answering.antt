-- An outcome is answered as demand 1 asks: a refusal, or a success whose result has the table's length and fits. The numbers are those of
-- the rows that tell which one is answered.
use Rattle.demands.specs.Names as N
use N.{not, Bool, ◌&&◌, cond, false, true, List, [], ◌∷◌, map, ◌≢◌, ◌⊎◌, inl, inr, ◌∙◌, ◌≡◌, ap, refl, ◌<◌, ◌≤◌, ℕ, arith, eqb, drop}
use N.{get_or, length, length-append, length-drop, drop_at, eqb-false, Head, Outcome, finished, refusal, refuse_as, over, refusal_head}
use N.{checked, Refusal, EmptyCbc, Ended, ErrorBlockSize, ErrorDataLen, RefusalLastU8, RefusalPadding, RefusalTag, NoRoom, Retired}
use N.{ShortGcm, TooLong, WrongBlock, WrongIv, WrongNumber, Checked, Ok, Err, Stepped, begun, goes_on, under, Verdict}
use N.{checked_verdict, none_with, on_key}
use Rattle.block.proofs.Same.{by_test}
use Rattle.cipher_mode.proofs.Refusals.{refuses}
use Rattle.demands.specs.Answered.{one_of, Answered}
use Rattle.demands.specs.WhichNumber.{Said, Row, first_of}

-- the refusals by their numbers, from 1 on; 7 is none's
abbrev refusals : ℕ → List Refusal
refusals missing =
    ErrorBlockSize ∷ ErrorDataLen ∷ RefusalLastU8 ∷ RefusalTag ∷ TooLong ∷ NoRoom ∷ NoRoom ∷ EmptyCbc ∷ ShortGcm missing ∷ WrongIv
    ∷ WrongBlock ∷ Ended ∷ WrongNumber ∷ Retired ∷ RefusalPadding ∷ []

-- what a report tells by its number: that it is done, a refusal by its name, or what no refusal is
abbrev pub told_by : (A : Type 0) → (ℕ → A) → (Refusal → A) → A → Head → A
told_by A done refused other h = get_or (done h.size ∷ map refused (refusals h.missing)) h.number other

-- every refusal is told back by what it spells, and only 9 says that bytes were missing
module _ (A : Type 0) (done : ℕ → A) (refused : Refusal → A) (other : A) where
  pub told_back : (r : Refusal)
      → (told_by A done refused other (refusal_head r) ≡ refused r) × ((refusal_head r).number ≢ 9 → (refusal_head r).missing ≡ 0)
  told_back ErrorBlockSize = (refl, λ _. refl)
  told_back ErrorDataLen = (refl, λ _. refl)
  told_back RefusalLastU8 = (refl, λ _. refl)
  told_back RefusalTag = (refl, λ _. refl)
  told_back TooLong = (refl, λ _. refl)
  told_back NoRoom = (refl, λ _. refl)
  told_back EmptyCbc = (refl, λ _. refl)
  told_back (ShortGcm n) = (refl, λ z. absurd (z refl))
  told_back WrongIv = (refl, λ _. refl)
  told_back WrongBlock = (refl, λ _. refl)
  told_back Ended = (refl, λ _. refl)
  told_back WrongNumber = (refl, λ _. refl)
  told_back Retired = (refl, λ _. refl)
  told_back RefusalPadding = (refl, λ _. refl)

-- a yes or no that is told as one of two numbers
pub is_true : (m n : ℕ) → eqb n m ≡ false → (t : Bool) → cond t m n ≡ m → t ≡ true
is_true m n d t e = by_test t (λ f. f) (λ f. absurd (eqb-false n m d (rw f at e)))

pub is_false : (m n : ℕ) → eqb m n ≡ false → (t : Bool) → cond t m n ≡ n → t ≡ false
is_false m n d t e = by_test t (λ f. absurd (eqb-false m n d (rw f at e))) (λ f. f)

pub one-or-none : (t : Bool) → (◌≡◌ {A = ℕ} (cond t 1 0) 1) ⊎ (◌≡◌ {A = ℕ} (cond t 1 0) 0)
one-or-none true = inl refl
one-or-none false = inr refl

pub mark_back : (t : Bool) → not (eqb (cond t 1 0) 0) ≡ t
mark_back true = refl
mark_back false = refl

-- the report behind a check, h being that of what comes next
unfoldable pub head_behind : Checked → Head → Head
head_behind (Ok _) h = h
head_behind (Err r) h = refusal_head r

-- of a call, of a piece or an end, and of a start; and behind a refusal by number
pub checked-head : (k : Checked) (o : List ℕ) (next : Outcome) → (checked k o next).head ≡ head_behind k next.head
unfolding head_behind
checked-head (Ok _) o next = refl
checked-head (Err r) o next = refl

pub step-head : (S : Type 0) (k : Checked) (o : List ℕ) (s : S) (next : Stepped S) → (goes_on S k o s next).head ≡ head_behind k next.head
unfolding head_behind
step-head S (Ok _) o s next = refl
step-head S (Err r) o s next = refl

pub start-head : (S : Type 0) (k : Checked) (shut : ℕ → S) (s : S) → (begun S k shut s).head ≡ head_behind k (finished 0)
unfolding head_behind
start-head S (Ok _) shut s = refl
start-head S (Err r) shut s = refl

pub front-head : (t : Bool) (k : ℕ) (o : List ℕ) (next : Outcome) → (refuse_as t k o next).head ≡ cond t (refusal k) next.head
front-head true k o next = refl
front-head false k o next = refl

-- and of the question which label a file opens under
pub verdict-head : (bad : Bool) (n : ℕ) (k : Checked) (v : Verdict) → v.head ≡ finished 0
    → (cond bad (none_with (refusal 16)) (on_key n (checked_verdict k v))).head
    ≡ cond bad (refusal 16) (under n (head_behind k (finished 0)))
unfolding head_behind
verdict-head true n k v e = refl
verdict-head false n (Ok _) v e = ap (under n) e
verdict-head false n (Err r) v e = refl

pub ruleset heads = (checked-head, step-head, start-head, front-head, verdict-head)

-- whether a list of rows gives numbers of a list alone, and then so does a call that says what they say
abbrev pub within : List Row → List ℕ → Bool
within [] numbers = one_of 0 numbers
within (r ∷ rows) numbers = one_of r.says.number numbers && within rows numbers

first-within : (rows : List Row) (numbers : List ℕ) → within rows numbers ≡ true → one_of (first_of rows).number numbers ≡ true
first-within [] numbers e = e
first-within (r ∷ rows) numbers e =
    by_test (one_of r.says.number numbers)
    (λ here. let there = first-within rows numbers (rw here at e) in by_test r.holds (λ h. rw h here) (λ h. rw h there))
    (λ none. let y : false ≡ true = rw none at e in let z : ◌≡◌ {A = ℕ} 0 1 = cc in absurd (omega arith))

pub numbered : (rows : List Row) (numbers : List ℕ) (s : Said) → within rows numbers ≡ true → s ≡ first_of rows
    → one_of s.number numbers ≡ true
numbered rows numbers s w e = ap (λ (s : Said). one_of s.number numbers) e ∙ first-within rows numbers w

-- what demand 1 asks of a report and of the output's bytes, but for the number and the key
module _ (o : List ℕ) (n : ℕ) where
  abbrev pub Fair : Head → List ℕ → Type 0
  Fair h bytes =
      (h.number ≢ 9 → h.missing ≡ 0) × (h.number ≢ 0 → (h.size ≡ 0) × (bytes ≡ o)) × (h.number ≡ 0 → h.size ≡ n)
      × (h.size ≤ length o) × (h.number ≡ 0 → drop h.size bytes ≡ drop h.size o) × (length bytes ≡ length o)

  pub answered : (numbers : List ℕ) (k : ℕ) (x : Outcome) → one_of x.head.number numbers ≡ true → x.head.key ≡ k
      → Fair x.head x.bytes → Answered numbers k o n x
  answered numbers k x i e (m, r, t, f, p, l) =
      record { numbered = i; key = e; missing = m; refused = r; reported = t; fits = f; past = p; kept = l }

  -- a refusal, by its number or by its name
  pub refused_fair : (k : ℕ) → 0 < k → Fair (refusal k) o
  refused_fair k h = (λ _. refl, λ _. (refl, refl), λ e. absurd (omega arith), omega arith, λ e. absurd (omega arith), refl)

  pub refusal_fair : (r : Refusal) → Fair (refusal_head r) o
  refusal_fair r =
      let q = refuses r in
      let z = q.no_size in
      ((told_back ℕ (λ n. n) (λ _. 0) 0 r).1, λ _. (z, refl), λ e. absurd (q.not-zero e), omega arith, λ e. absurd (q.not-zero e), refl)

  -- done with m bytes p, which the output has room for
  pub done_fair : (p : List ℕ) (m : ℕ) → length p ≡ m → m ≡ n → m ≤ length o → Fair (finished m) (over p o)
  done_fair p m e f h =
      let past : drop m (over p o) ≡ drop m o = rw (← e) (drop_at p (drop (length p) o) (length p) refl) in
      (λ _. refl, λ z. absurd (z refl), λ _. f, h, λ _. past, rw (length-append, length-drop) (omega arith))

  -- a check in front, or what comes next, which may count on it that the check passed; and a refusal by number k
  pub checks_fair : (k : Checked) (next : Outcome) → (k ≡ Ok tt → Fair next.head next.bytes)
      → Fair (checked k o next).head (checked k o next).bytes
  checks_fair (Ok _) next f = f refl
  checks_fair (Err r) next _ = refusal_fair r

  pub front_fair : (t : Bool) (k : ℕ) (next : Outcome) → 0 < k → (t ≡ false → Fair next.head next.bytes)
      → Fair (refuse_as t k o next).head (refuse_as t k o next).bytes
  front_fair true k next h _ = refused_fair k h
  front_fair false k next h f = f refl
