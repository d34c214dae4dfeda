-- A message cut in two, its front of full blocks: the walk over the whole is the walk over the front and then, from the state
-- that this ends in, over the back.
use Rattle.block.proofs.Base.{◌%◌, ◌/◌, ◌<◌, ◌≤◌, suc, ℕ, ◌∙◌, ◌≡◌, ap, refl, sym, List, [], ◌++◌, ◌∷◌, append_assoc, arith}
use Rattle.block.proofs.Base.{drop, length, length-append, length-drop, take, drop-append-le, take-append-le}
use Rattle.walk.specs.Walk.{Mode, chain, stepped, end_state}
use Rattle.walk.proofs.Chain.{chain-rest, chain-block, by_blocks}

pub end_rest : (m : Mode) (s d : List ℕ) → length d < 16 → end_state m s d ≡ s
unfolding end_state stepped
end_rest m s d h = let e : length d / 16 ≡ 0 = omega arith in rw e

pub end-block : (m : Mode) (s d : List ℕ) → 16 ≤ length d → end_state m s d ≡ end_state m (m.next s (take 16 d)) (drop 16 d)
unfolding end_state stepped
end-block m s d h =
    let e : length d / 16 ≡ suc (length (drop 16 d) / 16) = rw length-drop (omega arith) in
    rw e

-- no entries at all
none_left : (a : List ℕ) → length a < 1 → a ≡ []
none_left [] h = refl
none_left (x ∷ a) h = absurd (omega arith)

module _ (m : Mode) (b : List ℕ) where
  -- the state at the end of the whole is that at the end of the back
  pub end_cut : (s a : List ℕ) → length a % 16 ≡ 0 → end_state m s (a ++ b) ≡ end_state m (end_state m s a) b
  end_cut = by_blocks (λ s a. length a % 16 ≡ 0 → end_state m s (a ++ b) ≡ end_state m (end_state m s a) b) m
      (λ s a q w. rw (none_left a (omega arith)) (ap (λ (t : List ℕ). end_state m t b) (sym (end_rest m s [] (omega arith)))))
      (λ s a h i w.
      end-block m s (a ++ b) (rw length-append (omega arith))
      ∙ rw (take-append-le 16 a b h, drop-append-le 16 a b h) (i (rw length-drop (omega arith)))
      ∙ ap (λ (t : List ℕ). end_state m t b) (sym (end-block m s a h)))

  -- where a rest of nothing gives nothing, what the whole gives is what the parts give
  pub chain_cut : ((s : List ℕ) → m.rest s [] ≡ []) → (s a : List ℕ) → length a % 16 ≡ 0
      → chain m s (a ++ b) ≡ chain m s a ++ chain m (end_state m s a) b
  chain_cut nothing = by_blocks (λ s a. length a % 16 ≡ 0 → chain m s (a ++ b) ≡ chain m s a ++ chain m (end_state m s a) b) m
      (λ s a q w.
      let c : chain m s [] ≡ [] = chain-rest m s [] (omega arith) ∙ nothing s in
      rw (none_left a (omega arith), c, end_rest m s [] (omega arith)))
      (λ s a h i w.
      chain-block m s (a ++ b) (rw length-append (omega arith))
      ∙ rw (
        take-append-le 16 a b h,
        drop-append-le 16 a b h,
        i (rw length-drop (omega arith)),
        chain-block m s a h,
        end-block m s a h,
        append_assoc,
      ))
