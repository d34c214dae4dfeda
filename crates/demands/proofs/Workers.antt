-- Ranges and plans, as a host is handed them: which number each call answers, demand 1 of them, and what they are beside the single call.
use Rattle.demands.specs.Names as N
use N.{Bool, ◌||◌, false, not, true, List, Perm, [], ◌++◌, ◌∷◌, append_assoc, ◌≢◌, ◌⊎◌, inl, inr, ◌∙◌, ◌≡◌, ap, refl, sym, ◌+◌, ◌-◌, ◌≤◌}
use N.{min, suc, zero, ℕ, arith, eqb, ltb, drop, length, length-append, length-drop, length-take, take, drop-append-le, drop-drop}
use N.{take-append_seam, le-ltb, ltb-false, blocks_of, ctr_came_round, Head, Outcome, done, keyed, leaving, refusal, refuse_as, reporting}
use N.{under, over, chain, stream_mode, CtrKind, lengths_of, mode_result, mode_call, and_then, checked, refuse, key_and_iv, message_check}
use N.{room_check, key_number, limit, mode_of, Ctr, NoRoom, TooLong, Checked, Ok, Err, plan_call, no_pieces, plan_of}
use N.{accepts, planned, range_call, range_check, reach_check, stretch, Share, all_worked, applied, laid_at, share_of, shares_of, worked}
use N.{NotMade, BadWorkers, TooLongMade, Plan, mode_in, host_mode_call, direction_of, cipher_in, making_head, host_ctr_by_plan}
use N.{host_ctr_range, host_plan_make, LuossavinKey}
use Rattle.block.proofs.Same.{by_test}
use Rattle.demands.specs.WhichNumber.{Said, said_in, only, first_of}
use Rattle.demands.specs.Workers.{range_rows, plan_rows, make_rows, range_numbers, plan_numbers, PlanHanded, unsaid, ctr_call}
use Rattle.demands.specs.Workers.{StretchOfWhole, Applying, applied_by, RangesCommute, worked_by, all_worked_by}
use Rattle.demands.proofs.WhichNumber.{behind, said_laws, checked-said, front-said}
use Rattle.stream.proofs.RoundTrip.{length-stream}
use Rattle.cipher_mode.proofs.Passed.{both, let_through, InOrder}
use Rattle.ranges.proofs.Jumped.{length-stretch}
use Rattle.ranges.proofs.OwnPlans.{no_more_than_workers, no_longer_than_share, own_accepted}
use Rattle.ranges.proofs.Places.{past_the_count}
use Rattle.ranges.proofs.Planner.{in_order}
use Rattle.demands.specs.Answered.{Answered}
use Rattle.demands.proofs.Answering.{numbered, answered, done_fair, checks_fair, front_fair}
use Rattle.cipher_mode.proofs.Refusals.{refuses, quiet_refusal}
use Rattle.ranges.proofs.Applied.{length-applied, ranges_commute}
use Rattle.ranges.proofs.Copied.{nothing_laid}
use Rattle.ranges.proofs.AnyOrder.{share-of-whole, length-worked, plan_in_any_order}
use Rattle.demands.specs.Call.{result}
use Rattle.demands.proofs.Through.{zero_passed, through, leaves, result-of-done}
use Rattle.demands.proofs.InPieces.{ctr-data, ctr-begins, single-done}
use Rattle.ghash.proofs.Blocks.{get_or-zeros}
use lib.Seq.{drop-append_seam}

-- what is checked of a stretch that ends at a byte, and of a range
abbrev reach_of : LuossavinKey → Bool → List ℕ → ℕ → Checked
reach_of k decrypt iv = reach_check (cipher_in k).answer (cipher_in k).retired (direction_of decrypt) (length iv)

abbrev range_of : LuossavinKey → Bool → List ℕ → ℕ → ℕ → ℕ → Checked
range_of k decrypt iv = range_check (cipher_in k).answer (cipher_in k).retired (direction_of decrypt) (length iv)

-- A range says what the first condition says that holds: key, IV, where it encrypts whether the key is retired, the end of the stretch, the
-- room.
pub exported_range-number : (k : LuossavinKey) (decrypt : Bool) (iv : List ℕ) (offset : ℕ) (d o : List ℕ)
    → said_in (host_ctr_range k decrypt iv offset d o).head ≡ first_of (range_rows k decrypt iv offset d o)
unfolding host_ctr_range range_call range_check reach_check key_and_iv cipher_in
exported_range-number k decrypt iv offset d o =
    checked-said (range_of k decrypt iv offset (length d) (length o)) o _ _
    (by_test decrypt (λ e. rw e (simp said_laws)) (λ e. rw e (simp said_laws)))

-- Work by a plan the same, with the plan between the length and the room.
pub exported_plan-number : (k : LuossavinKey) (decrypt : Bool) (iv : List ℕ) (plan : Plan) (d o : List ℕ)
    → said_in (host_ctr_by_plan k decrypt iv plan d o).head ≡ first_of (plan_rows k decrypt iv plan d o)
unfolding host_ctr_by_plan plan_call reach_check key_and_iv cipher_in
exported_plan-number k decrypt iv plan d o =
    checked-said (reach_of k decrypt iv (length d)) o _ _
    (ap {B = Said} (behind (reach_of k decrypt iv (length d)))
    (front-said (not (accepts plan (length d))) 18 o _ _ (front-said (ltb (length o) (length d)) 6 o _ (only 0) refl))
    ∙ by_test decrypt (λ e. rw e (simp said_laws)) (λ e. rw e (simp said_laws)))

-- The planner says 17 for a count of workers outside 1 to 64, and then 5.
pub exported_make-number : (n workers : ℕ) → said_in (host_plan_make n workers).head ≡ first_of (make_rows n workers)
unfolding host_plan_make planned
exported_make-number n workers =
    by_test (eqb workers 0 || ltb 64 workers) (λ e. rw e) (λ e. by_test (ltb limit n) (λ f. rw (e, f)) (λ f. rw (e, f)))

-- Demand 1 of ranges and plans: every call ends with an answer, for all inputs. A refusal reports length 0 and leaves the output as it was
-- lent, or hands out a plan of no pieces; a success reports the data's length and leaves what lies past it as it was lent, or hands out a
-- plan that is accepted.

-- what a range that passes has in order
in_range : (k : LuossavinKey) (decrypt : Bool) (iv : List ℕ) (offset n room : ℕ) → range_of k decrypt iv offset n room ≡ Ok tt
    → (key_and_iv (cipher_in k).answer (cipher_in k).retired (direction_of decrypt) Ctr (length iv) ≡ Ok tt)
    × (offset + n ≤ limit) × (n ≤ room)
unfolding range_check reach_check
in_range k decrypt iv offset n room e =
    let (reach, roomy) = both (reach_of k decrypt iv (offset + n)) _ e in
    let (first, within) = both (key_and_iv (cipher_in k).answer (cipher_in k).retired (direction_of decrypt) Ctr (length iv)) _ reach in
    (first, ltb-false limit _ (let_through (ltb limit (offset + n)) _ _ within).fails, ltb-false room n (let_through _ _ _ roomy).fails)

-- A range: a refusal, or a success of as many bytes as it was handed.
pub exported_range-answers : (k : LuossavinKey) (decrypt : Bool) (iv : List ℕ) (offset : ℕ) (d o : List ℕ)
    → Answered range_numbers (key_number (cipher_in k)) o (length d) (host_ctr_range k decrypt iv offset d o)
unfolding host_ctr_range range_call
exported_range-answers k decrypt iv offset d o =
    let p = stretch (cipher_in k).rk iv offset d in
    let l = length-stretch (cipher_in k).rk iv offset d in
    answered o (length d) range_numbers _ _
    (numbered (range_rows k decrypt iv offset d o) range_numbers _ (by_test decrypt (λ e. rw e) (λ e. rw e))
    (exported_range-number k decrypt iv offset d o)) refl
    (checks_fair o (length d) (range_of k decrypt iv offset (length d) (length o)) (done p o) (λ e.
    let (_, _, room) = in_range k decrypt iv offset (length d) (length o) e in
    done_fair o (length d) p _ refl l (omega arith)))

-- Work by a plan: the same, with one refusal more.
pub exported_plan-answers : (k : LuossavinKey) (decrypt : Bool) (iv : List ℕ) (plan : Plan) (d o : List ℕ)
    → Answered plan_numbers (key_number (cipher_in k)) o (length d) (host_ctr_by_plan k decrypt iv plan d o)
unfolding host_ctr_by_plan plan_call
exported_plan-answers k decrypt iv plan d o =
    let p = chain (stream_mode CtrKind (cipher_in k).rk) iv d in
    let l = length-stream CtrKind (cipher_in k).rk iv d in
    let n = length d in
    answered o n plan_numbers _ _
    (numbered (plan_rows k decrypt iv plan d o) plan_numbers _ (by_test decrypt (λ e. rw e) (λ e. rw e))
    (exported_plan-number k decrypt iv plan d o)) refl
    (checks_fair o n (reach_of k decrypt iv n) _ (λ _.
    front_fair o n (not (accepts plan n)) 18 _ (omega arith) (λ _.
    front_fair o n (ltb (length o) n) 6 (done p o) (omega arith) (λ f.
    let h = ltb-false (length o) n f in
    done_fair o n p _ refl l (omega arith)))))

module _ (n workers : ℕ) where
  -- where none is made
  none_handed : (m : NotMade) → (making_head (Err m) ≡ refusal 5) ⊎ (making_head (Err m) ≡ refusal 17) → (making_head (Err m)).number ≢ 0
      → PlanHanded n workers (record { head = making_head (Err m); plan = no_pieces })
  none_handed m answered some =
      record {
        answered = inr answered;
        refused = λ _. refl;
        accepted = λ e. absurd (some e);
        few = λ e. absurd (some e);
        short = λ e. absurd (some e);
        unused = λ i h. (get_or-zeros 64 i, get_or-zeros 64 i);
      }

  one_handed : 1 ≤ workers → workers ≤ 64
      → PlanHanded n workers (record { head = making_head (Ok (plan_of n workers)); plan = plan_of n workers })
  one_handed least most =
      record {
        answered = inl refl;
        refused = λ some. absurd (some refl);
        accepted = λ _. own_accepted n workers least most;
        few = λ _. no_more_than_workers n workers least;
        short = λ _. no_longer_than_share n workers;
        unused = past_the_count n workers;
      }

  -- The planner hands out no pieces with a refusal, and otherwise a plan that is accepted, has no more pieces than workers, none of them
  -- longer than its share, and zeros behind them.
  pub exported_make-answers : PlanHanded n workers (host_plan_make n workers)
  unfolding host_plan_make planned
  exported_make-answers =
      by_test (eqb workers 0 || ltb 64 workers) (λ e. rw e (none_handed BadWorkers (inr refl) (λ z. omega arith))) (λ e.
      by_test (ltb limit n) (λ f. rw (e, f) (none_handed TooLongMade (inl refl) (λ z. omega arith))) (λ f.
      let sound = in_order n workers {p = plan_of n workers} (rw (e, f)) in rw (e, f) (one_handed sound.least sound.most)))

-- Ranges and plans beside the single call: work by an accepted plan has its outcome, but for the report of a counter; a range is its
-- stretch of what the single call gives; two ranges applied to one text give the same in either order; and workers who each do their
-- share of an accepted plan, in any order, leave the single call's bytes.

-- by key and IV, the length and the room
alike : (k : ℕ) (c o : List ℕ) (b : Bool) (a : Checked) (long short : Bool)
    → keyed k (checked (and_then a (refuse long TooLong (Ok tt))) o (refuse_as short 6 o (done c o)))
    ≡ unsaid
    (keyed k (checked (and_then a (and_then (refuse long TooLong (Ok tt)) (refuse short NoRoom (Ok tt)))) o (reporting b (done c o))))
alike k c o b (Err r) long short = ap {B = Outcome} (λ (h : Head). leaving (under k h) o) (sym (quiet_refusal r))
alike k c o b (Ok _) true short = refl
alike k c o b (Ok _) false true = refl
alike k c o b (Ok _) false false = refl

-- By an accepted plan, whoever made it, the outcome is the single call's, done or refused, in every byte and every field but the report
-- of a counter.
pub accepted-plan_is_the_call : (k : LuossavinKey) (decrypt : Bool) (label iv : List ℕ) (plan : Plan) (d o : List ℕ)
    → accepts plan (length d) ≡ true
    → host_ctr_by_plan k decrypt iv plan d o ≡ unsaid (host_mode_call (direction_of decrypt) 2 k label d iv o)
unfolding host_ctr_by_plan plan_call reach_check host_mode_call mode_of mode_call message_check room_check
accepted-plan_is_the_call k decrypt label iv plan d o e =
    rw (e, ctr-data (direction_of decrypt) (length d))
    (alike (key_number (cipher_in k)) (chain (stream_mode CtrKind (cipher_in k).rk) iv d) o (ctr_came_round iv (blocks_of (length d)))
    (key_and_iv (cipher_in k).answer (cipher_in k).retired (direction_of decrypt) Ctr (length iv)) (ltb limit (length d))
    (ltb (length o) (length d)))

-- what the single call has in order and gives where it is done
module _ (k : LuossavinKey) (decrypt : Bool) (label d iv o : List ℕ) (e : (ctr_call k decrypt label d iv o).head.number ≡ 0) where
  call_in_order : InOrder (cipher_in k).answer (cipher_in k).retired (direction_of decrypt) Ctr (lengths_of label d iv o)
  unfolding host_mode_call mode_of
  call_in_order = through (direction_of decrypt) (mode_in k 2) label d iv o e

  call-gives : ctr_call k decrypt label d iv o
      ≡ keyed (key_number (cipher_in k)) (mode_result Ctr (direction_of decrypt) k.round_keys label d iv o)
  unfolding host_mode_call mode_of cipher_in
  call-gives = leaves (direction_of decrypt) (mode_in k 2) label d iv o call_in_order

  -- so every range within the text passes, given room
  within_passes : (offset n room : ℕ) → offset + n ≤ length d → n ≤ room → range_of k decrypt iv offset n room ≡ Ok tt
  unfolding range_check reach_check key_and_iv
  within_passes offset n room h g =
      let q = call_in_order in
      let within = ltb-false limit (length d) (let_through _ TooLong (Ok tt) (rw ctr-data at q.content)).fails in
      rw (q.key, q.iv-size, q.may, le-ltb limit (offset + n) (omega arith), le-ltb room n g)

-- The exported range is its stretch of what the exported single call gives of the whole, whatever is before and behind it.
pub stretch-of_the_call : StretchOfWhole host_ctr_range ctr_call
unfolding host_ctr_range range_call cipher_in host_mode_call mode_of
stretch-of_the_call =
    record {
      stretch = λ k decrypt label iv pre d post o o' room e.
          let rk = k.round_keys in
          let text = pre ++ (d ++ post) in
          let n : length text ≡ length pre + (length d + length post) = rw (length-append pre (d ++ post), length-append d post) in
          let whole = chain (stream_mode CtrKind rk) iv text in
          let gives = ap result (call-gives k decrypt label text iv o' e) ∙ result-of-done whole o' in
          rw (within_passes k decrypt label text iv o' e (length pre) (length d) (length o) (omega arith) room) (
            refl,
            rw (gives, ← share-of-whole rk iv text (record { start = length pre; size = length d }))
                (simp (drop-append_seam, take-append_seam)),
          );
      whole = λ k decrypt label iv pre d o o' room e.
          let (first, within, _) = in_range k decrypt iv (length pre) (length d) (length o) (zero_passed _ o _ e) in
          let n = length-append pre d in
          ap (λ (x : Outcome). x.head.number)
          (single-done (ctr-begins (direction_of decrypt) (cipher_in k) label iv) first (pre ++ d) o'
          (rw (ctr-data, le-ltb limit (length (pre ++ d)) (omega arith))) room);
    }

-- by what the check says: the text with the range in it, or the text
abbrev does : Checked → (List ℕ → List ℕ) → List ℕ → List ℕ
does (Ok _) f t = f t
does (Err r) f t = t

laid_by : (check : Checked) (k at : ℕ) (s o t : List ℕ) (f : List ℕ → List ℕ) → laid_at at s t ≡ f t
    → laid_at at (result (keyed k (checked check o (done s o)))) t ≡ does check f t
laid_by (Ok _) k at s o t f e = ap (λ (l : List ℕ). laid_at at l t) (result-of-done s o) ∙ e
laid_by (Err r) k at s o t f e = ap (λ (n : ℕ). laid_at at (take n o) t) (refuses r).no_size ∙ nothing_laid at t

either_way : (x y : Checked) (f g : List ℕ → List ℕ) (t : List ℕ) → f (g t) ≡ g (f t) → does x f (does y g t) ≡ does y g (does x f t)
either_way (Ok _) (Ok _) f g t e = e
either_way (Ok _) (Err r) f g t e = refl
either_way (Err q) y f g t e = refl

-- a share is no longer than what is behind its start
length-share : (p : Share) (l : List ℕ) → length (share_of p l) ≡ min p.size (length l - p.start)
length-share p l = rw (length-take, length-drop)

module _ (a : Applying) where
  -- the check of the range depends on the text's length alone
  abbrev check_of : ℕ → Checked
  check_of n = range_of a.key a.decrypt a.iv a.share.start (min a.share.size (n - a.share.start)) (length a.out)

  abbrev into : List ℕ → List ℕ
  into t = applied a.key.round_keys a.iv a.share t

  applies : (t : List ℕ) → applied_by host_ctr_range a t ≡ does (check_of (length t)) into t
  unfolding host_ctr_range range_call cipher_in
  applies t =
      let s = stretch a.key.round_keys a.iv a.share.start (share_of a.share t) in
      rw (length-share a.share t) (laid_by (check_of (length t)) (key_number (cipher_in a.key)) a.share.start s a.out t into refl)

  length_does : (check : Checked) (t : List ℕ) → length (does check into t) ≡ length t
  length_does (Ok _) t = length-applied a.key.round_keys a.iv a.share t
  length_does (Err r) t = refl

-- Two ranges applied to one text through the exported call leave the same bytes in either order.
pub exported_ranges_commute : RangesCommute host_ctr_range
exported_ranges_commute a b t =
    rw (applies a t, applies b t) (rw (applies a _, applies b _) (rw (length_does a, length_does b)
    (either_way (check_of a (length t)) (check_of b (length t)) (into a) (into b) t
    (ranges_commute a.key.round_keys a.iv b.key.round_keys b.iv a.share b.share t))))

-- what is laid over a part of the output is laid into the output
front-and-rest : (n : ℕ) (w : List ℕ) → take n w ++ drop (length (take n w)) w ≡ w
front-and-rest zero w = refl
front-and-rest (suc n) [] = refl
front-and-rest (suc n) (x ∷ w) = ap {B = List ℕ} (λ l. x ∷ l) (front-and-rest n w)

laid_over : (at n : ℕ) (s o : List ℕ) → length s ≤ length (take n (drop at o)) → laid_at at (over s (take n (drop at o))) o ≡ laid_at at s o
laid_over at n s o h =
    let v = take n (drop at o) in
    let size : length (over s v) ≡ length v = rw (length-append, length-drop) (omega arith) in
    rw (size, append_assoc s, ← drop-append-le (length s) v (drop (at + length v) o) h)
    (rw (← drop-drop (length v) at o, front-and-rest n (drop at o), drop-drop (length s) at o))

-- what a call leaves that passes where there is something to do
done-or-nothing : (c : Checked) (s v : List ℕ) → (1 ≤ length s → c ≡ Ok tt) → (checked c v (done s v)).bytes ≡ over s v
done-or-nothing c (x ∷ s) v h = rw (h (omega arith))
done-or-nothing (Ok _) [] v h = refl
done-or-nothing (Err r) [] v h = refl

module _ (k : LuossavinKey) (decrypt : Bool) (label d iv o₀ : List ℕ)
    (e : (host_mode_call (direction_of decrypt) 2 k label d iv o₀).head.number ≡ 0) where
  abbrev rk : List ℕ
  rk = k.round_keys

  -- the call on a share: one that starts within the text is in order, and of another there is nothing
  share-worked : (p : Share) (o : List ℕ) → length d ≤ length o → worked_by k decrypt iv d p o ≡ worked rk iv d p o
  unfolding host_ctr_range range_call cipher_in
  share-worked p o room =
      let here = stretch rk iv p.start (share_of p d) in
      let n = length-share p d in
      let m = length-share p o in
      let size = length-stretch rk iv p.start (share_of p d) in
      let passes = within_passes k decrypt label d iv o₀ e p.start (length (share_of p d)) (length (share_of p o)) in
      rw (done-or-nothing (range_of k decrypt iv p.start (length (share_of p d)) (length (share_of p o))) here (share_of p o)
      (λ some. passes (omega arith) (omega arith))) (laid_over p.start p.size here o (omega arith))

  all_worked_lem : (ps : List Share) (o : List ℕ) → length d ≤ length o → all_worked_by k decrypt iv d ps o ≡ all_worked rk iv d ps o
  all_worked_lem [] o h = refl
  all_worked_lem (p ∷ ps) o h =
      let n = length-worked rk iv d ps o h in
      ap (worked_by k decrypt iv d p) (all_worked_lem ps o h) ∙ share-worked p (all_worked rk iv d ps o) (omega arith)

  -- Workers who each do their share of an accepted plan, whoever made it, in any order and each lent its own stretch of the output alone,
  -- leave what the single call leaves.
  pub workers_in_any_order : (plan : Plan) → accepts plan (length d) ≡ true → (ps : List Share) → Perm (shares_of plan) ps
      → all_worked_by k decrypt iv d ps o₀ ≡ (host_mode_call (direction_of decrypt) 2 k label d iv o₀).bytes
  workers_in_any_order plan accepted ps order =
      let room = (call_in_order k decrypt label d iv o₀ e).room in
      all_worked_lem ps o₀ room
      ∙ plan_in_any_order rk iv d o₀ room plan accepted ps order
      ∙ sym (ap (λ (x : Outcome). x.bytes) (call-gives k decrypt label d iv o₀ e))
