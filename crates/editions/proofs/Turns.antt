-- What the definitions over the lengths say at one length, and after the last.
use Rattle.block.proofs.Base.{◌+◌, ◌-◌, ◌<◌, ◌≤◌, ℕ, ◌∙◌, ◌≡◌, refl, sym, Bool, ◌||◌, cond, false, true, true≢false, List, [], ◌∷◌, add-one, arith}
use Rattle.block.proofs.Base.{ltb-false, ltb, drop, drop_of_length-le, get_or, length, take, drop-cons, drop-drop}
use Rattle.std.specs.List.{list_any}
use Rattle.cipher_mode.specs.Outcome.{finished}
use Rattle.cipher_mode.specs.Tables.{limit}
use Rattle.editions.specs.Candidates.{sum, any_too_long}
use Rattle.editions.specs.Which.{Verdict, found_at, none_with, first_opening}

pub or-false : (t u : Bool) → t || u ≡ false → (t ≡ false) × (u ≡ false)
or-false true u e = absurd (true≢false e)
or-false false u e = (refl, e)

-- what `any` tells of the lengths
pub any_long : (ns : List ℕ) → list_any (ltb limit) ns ≡ any_too_long ns
unfolding any_too_long
any_long [] = refl
any_long (n ∷ ns) = rw (any_long ns)

module _ (ns : List ℕ) (i : ℕ) (inside : i < length ns) where
  pub sum_turn : sum (drop i ns) ≡ get_or ns i 0 + sum (drop (i + 1) ns)
  unfolding sum
  sum_turn = rw (add-one, drop-cons ns i 0 inside)

  pub long_turn : any_too_long (drop i ns) ≡ ltb limit (get_or ns i 0) || any_too_long (drop (i + 1) ns)
  unfolding any_too_long
  long_turn = rw (add-one, drop-cons ns i 0 inside)

  pub short_turn : any_too_long (drop i ns) ≡ false → (get_or ns i 0 ≤ limit) × (any_too_long (drop (i + 1) ns) ≡ false)
  short_turn e =
      let both = or-false (ltb limit (get_or ns i 0)) (any_too_long (drop (i + 1) ns)) (sym long_turn ∙ e) in
      (ltb-false limit (get_or ns i 0) both.0, both.1)

  -- what the search comes to by the test t of this turn; the part of the buffer is written as the borrow checker has it
  pub search_turn : (test : List ℕ → Bool) (labels : List ℕ) (start : ℕ) (v : Verdict) (t : Bool)
      → first_opening test (drop start labels) (drop i ns) i start ≡ v
      → t ≡ test (take (start + get_or ns i 0 - start) (drop start labels)) → cond t (found_at i start (get_or ns i 0))
      (first_opening test (drop (start + get_or ns i 0) labels) (drop (i + 1) ns) (i + 1) (start + get_or ns i 0)) ≡ v
  unfolding first_opening
  search_turn test labels start v t e f =
      let same : start + get_or ns i 0 - start ≡ get_or ns i 0 = omega arith in
      rw (f, same, add-one i) (rw (drop-cons ns i 0 inside, drop-drop, add-one i) at e)

module _ (ns : List ℕ) (i : ℕ) (past : length ns ≤ i) where
  pub sum-end : sum (drop i ns) ≡ 0
  unfolding sum
  sum-end = rw drop_of_length-le

  pub long-end : any_too_long (drop i ns) ≡ false
  unfolding any_too_long
  long-end = rw drop_of_length-le

  pub search-end : (test : List ℕ → Bool) (labels : List ℕ) (start : ℕ) (v : Verdict)
      → first_opening test (drop start labels) (drop i ns) i start ≡ v → none_with (finished 0) ≡ v
  unfolding first_opening
  search-end test labels start v e = rw (drop_of_length-le ns past) at e
