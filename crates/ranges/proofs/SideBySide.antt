-- The starts and the lengths of a plan side by side, as a walk over its pieces yields them.
use Rattle.ranges.proofs.Names.{List, Plan, [], ◌<◌, ◌∙◌, ◌∷◌, ◌≡◌, ◌≤◌, ap, arith, get_or, length, refl, suc, take, zero, ℕ}
use Rattle.std.proofs.iter.Yields.{fronts}
use Rattle.std.specs.Iterator.Adapters.{take_count, take_source, take_steps, zip_first, zip_second}
use Rattle.std.specs.Slice.Iter.{iter_rest}
use Rattle.std.specs.declared.iter.Take.{Take}
use Rattle.std.specs.declared.iter.Zip.{Zip}
use Rattle.std.specs.declared.slice.Iter.{Iter}
use Rattle.std.proofs.lemmas.Iterator.{YieldsList, YieldsList-from_slice, YieldsList-from_take, YieldsList-from_zip, zips}
use Rattle.std.proofs.lemmas.Iterator.Consumers.{YieldsList-at}
use Rattle.std.specs.List.{zip}

-- the first n entries of two lists side by side
zip_at : (ss ls : List ℕ) (n i : ℕ) (d : ℕ × ℕ) → i < length (take n (zip ss ls))
    → get_or (take n (zip ss ls)) i d ≡ (get_or ss i 0, get_or ls i 0)
zip_at ss ls zero i d h = absurd (omega arith)
zip_at [] ls (suc n) i d h = absurd (omega arith)
zip_at (s ∷ ss) [] (suc n) i d h = absurd (omega arith)
zip_at (s ∷ ss) (l ∷ ls) (suc n) zero d h = refl
zip_at (s ∷ ss) (l ∷ ls) (suc n) (suc i) d h = zip_at ss ls n i d (omega arith)

zip_long : (ss ls : List ℕ) (n : ℕ) → n ≤ length ss → n ≤ length ls → length (take n (zip ss ls)) ≡ n
zip_long ss ls zero h k = refl
zip_long [] ls (suc n) h k = absurd (omega arith)
zip_long (s ∷ ss) [] (suc n) h k = absurd (omega arith)
zip_long (s ∷ ss) (l ∷ ls) (suc n) h k = ap suc (zip_long ss ls n (omega arith) (omega arith))

module _ (p : Plan) (few : p.count ≤ 64) (room : length p.starts ≡ 64) (room' : length p.lengths ≡ 64) where
  abbrev pub side_by_side : List (ℕ × ℕ)
  side_by_side = take p.count (zip p.starts p.lengths)

  pub as_many : length side_by_side ≡ p.count
  as_many = zip_long p.starts p.lengths p.count (omega arith) (omega arith)

  -- the one that a turn yields, after k others
  pub yielded : {k s l : ℕ} → (k < length side_by_side) × ((s, l) ≡ get_or side_by_side k (s, l))
      → (k < p.count) × (s ≡ get_or p.starts k 0) × (l ≡ get_or p.lengths k 0)
  yielded {k} {s} {l} turn =
      let is = turn.1 ∙ zip_at p.starts p.lengths p.count k (s, l) turn.0 in
      (omega (arith, as_many, turn.0), ap (λ (x : ℕ × ℕ). x.0) is, ap (λ (x : ℕ × ℕ). x.1) is)

-- what `starts.iter().zip(&lengths).take(count)` yields
pub over_pieces : (p : Plan) {s t : Take (Zip (Iter ℕ) (Iter ℕ))} {z : Zip (Iter ℕ) (Iter ℕ)} {i : Iter ℕ} → s ≡ t → take_source t ≡ z
    → take_count t ≡ p.count → zip_first z ≡ i → iter_rest i ≡ p.starts → iter_rest (zip_second z) ≡ p.lengths
    → YieldsList (take_steps (zips fronts fronts)) (λ x. (x.0.now, x.1.now)) s (take p.count (zip p.starts p.lengths))
over_pieces p started source count first starts lengths =
    YieldsList-at started
    (YieldsList-from_take p.count
    (YieldsList-at source (YieldsList-from_zip (YieldsList-at first (YieldsList-from_slice p.starts starts)) (YieldsList-from_slice p.lengths lengths)))
    count)
