-- What is read of a record, step by step.
use Rattle.journal.proofs.Names.{Bool, List, [], ◌&&◌, ◌<◌, ◌∙◌, ◌∷◌, ◌≡◌, ◌≤◌, and_left, and_right, arith, eqb, get_or, get_or-take, le-leb, leb, leb-true}
use Rattle.journal.proofs.Names.{marked, number_of, sym, take, true, ℕ}
use Rattle.journal.proofs.Bytes.{number_of_2}
use Rattle.std.specs.Int.{from_be_bytes, w16}

-- the test of the mark
abbrev pub mark_test : List ℕ → Bool
mark_test h = eqb (get_or h 0 0) 84 && (eqb (get_or h 1 0) 82 && true)

-- the head h was taken from the front of b
module _ (b h : List ℕ) (e : h ≡ take 6 b) where
  pub at : (i : ℕ) → i < 6 → get_or h i 0 ≡ get_or b i 0
  at i k = rw e (get_or-take 6 b i 0 k)

  tested : mark_test h ≡ eqb (get_or b 0 0) 84 && (eqb (get_or b 1 0) 82 && true)
  tested = rw (at 0 (omega arith), at 1 (omega arith))

  pub marked_so : mark_test h ≡ true → get_or h 2 0 ≤ 1 → marked b ≡ true
  unfolding marked
  marked_so t k =
      let u = sym tested ∙ t in
      let v = and_right (eqb (get_or b 0 0) 84) (eqb (get_or b 1 0) 82 && true) u in
      let first : eqb (get_or b 0 0) 84 ≡ true = and_left _ _ u in
      let second : eqb (get_or b 1 0) 82 ≡ true = and_left _ _ v in
      let d = at 2 (omega arith) in
      rw (first, second, le-leb (get_or b 2 0) 1 (omega arith))

  pub mark-tested : marked b ≡ true → mark_test h ≡ true
  unfolding marked
  mark-tested m =
      let n = and_right (eqb (get_or b 0 0) 84) (eqb (get_or b 1 0) 82 && leb (get_or b 2 0) 1) m in
      let first : eqb (get_or b 0 0) 84 ≡ true = and_left _ _ m in
      let second : eqb (get_or b 1 0) 82 ≡ true = and_left _ _ n in
      tested ∙ rw (first, second)

  -- the byte of the direction is 0 or 1
  pub marked_way : marked b ≡ true → get_or h 2 0 ≤ 1
  unfolding marked
  marked_way m =
      let n = and_right (eqb (get_or b 0 0) 84) (eqb (get_or b 1 0) 82 && leb (get_or b 2 0) 1) m in
      let d = at 2 (omega arith) in
      omega (arith, leb-true (get_or b 2 0) 1 (and_right (eqb (get_or b 1 0) 82) _ n))

  pub key_read : from_be_bytes w16 (get_or h 4 0 ∷ get_or h 5 0 ∷ []) ≡ number_of (get_or b 4 0 ∷ get_or b 5 0 ∷ [])
  key_read = rw (at 4 (omega arith), at 5 (omega arith)) (number_of_2 (get_or b 4 0) (get_or b 5 0))
