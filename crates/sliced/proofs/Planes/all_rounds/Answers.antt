-- A turn takes four round keys off the front of those that are left (`four_done`), until none are.
use Rattle.sliced.proofs.Names.{List, [], ◌%◌, ◌<◌, ◌∷◌, ◌∙◌, ◌≡◌, ap, arith, block_in, drop_of_length-le, four_done}
use Rattle.sliced.proofs.Names.{four_entries, length, refl, rounds, ℕ}
use Rattle.sliced.proofs.Planes.all_rounds.Goals as goal

pub loop-k-preserved : goal.loop-k-preserved
unfolding rounds
loop-k-preserved c =
    let l = c.loop-k in
    let s = c.in-Some.ensures.steps in
    let k = c.in-Some.k.now in
    let n : length k ≡ 4 = s.1.1 ∙ l.invariant.0 in
    let rest = c.next.new.self.rest.now in
    let left = l.k-iterator.rest.now in
    let done : (x y : List ℕ) → y ≡ rounds k x → (length rest % 4 ≡ 0) × (rounds rest y ≡ rounds left x) =
    λ x y r. four_done _ k _ x y 4 s.1.0 n l.invariant.1 (omega (arith, n)) (rw (drop_of_length-le k {i = 4} (omega (arith, n))) r) in (
      s.0 ∙ l.invariant.0,
      (done (rounds [] []) (rounds k []) refl).0,
      λ e h g.
          let x = block_in l.self e in
          (done x _ (c.four.ensures e h g ∙ ap (λ (ks : List ℕ). rounds ks x) (four_entries k n))).1 ∙ l.invariant.2 e h g,
    )

none : (rest : List ℕ) → length rest < 4 → length rest % 4 ≡ 0 → rest ≡ []
none [] h m = refl
none (k ∷ rest) h m = absurd (omega arith)

pub returns : goal.returns
unfolding rounds
returns c =
    let l = c.loop-k in
    let d = none l.k-iterator.rest.now (omega (arith, l.invariant.0, c.in-None.ensures.steps)) l.invariant.1 in
    λ e h g. rw d at (l.invariant.2 e h g)
