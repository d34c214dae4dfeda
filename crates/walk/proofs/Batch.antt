-- Many blocks at once: what n full blocks give, each from the state that the walk has there, is what the walk gives. So a loop that writes
-- one block a turn, or many, goes on where the walk had come to.
use Rattle.block.proofs.Base.{◌%◌, ◌*◌, ◌+◌, ◌-◌, ◌<◌, ◌≤◌, suc, zero, ℕ, ◌∙◌, ◌≡◌, ap, ap₂, refl, sym, List, [], ◌++◌, append_assoc, arith}
use Rattle.block.proofs.Base.{drop, length, length-append, length-drop, take, drop_at, drop-drop, length-take-le, take_at}
use Rattle.block.specs.Blocks.{block_at, cat}
use Rattle.block.proofs.Cat.{cat-same, cat-first, length-cat, length-block_at}
use Rattle.block.specs.Over.{over}
use Rattle.walk.specs.Walk.{Mode, chain, stepped, end_state}
use Rattle.walk.specs.Reached.{Reached}
use Rattle.walk.proofs.Chain.{chain-block}
use Rattle.walk.proofs.Cut.{end-block}
use Rattle.block.proofs.Tails.{tailed, tail_is, returned, returned_is, over-append}
use Rattle.walk.proofs.Loop.{last-state, nothing_left}

-- what block i gives, from the state that the walk has there
abbrev pub gives : Mode → List ℕ → List ℕ → ℕ → List ℕ
gives m s d i = m.block (stepped m i s d) (block_at d i)

-- the same tail, one block further on
tail_on : (d : List ℕ) (i : ℕ) → drop (16 * i) (drop 16 d) ≡ drop (16 * suc i) d
tail_on d i =
    let e : 16 + 16 * i ≡ 16 * suc i = omega arith in
    drop-drop (16 * i) 16 d ∙ ap (λ (n : ℕ). drop n d) e

chain-blocks : (m : Mode) (n : ℕ) (s d : List ℕ) → 16 * n ≤ length d
    → chain m s d ≡ cat n (gives m s d) ++ chain m (stepped m n s d) (drop (16 * n) d)
unfolding stepped cat
chain-blocks m zero s d h = refl
chain-blocks m (suc n) s d h =
    let t = m.next s (take 16 d) in
    let e = drop 16 d in
    let l : length e ≡ length d - 16 = length-drop 16 d in
    let F = m.block s (take 16 d) in
    let C = chain m (stepped m n t e) (drop (16 * n) e) in
    let same : cat n (gives m t e) ≡ cat n (λ i. gives m s d (suc i)) =
    cat-same n (gives m t e) (λ i. gives m s d (suc i))
    (λ i k. ap (λ (x : List ℕ). m.block (stepped m i t e) (take 16 x)) (tail_on d i)) in
    chain-block m s d (omega arith)
    ∙ ap (λ (x : List ℕ). F ++ x) (chain-blocks m n t e (omega arith))
    ∙ sym (append_assoc F (cat n (gives m t e)) C)
    ∙ ap₂ (λ (x y : List ℕ). x ++ chain m (stepped m n t e) y)
    (ap (λ (x : List ℕ). F ++ x) same ∙ sym (cat-first n (gives m s d))) (tail_on d n)

end-blocks : (m : Mode) (n : ℕ) (s d : List ℕ) → 16 * n ≤ length d → end_state m s d ≡ end_state m (stepped m n s d) (drop (16 * n) d)
unfolding stepped
end-blocks m zero s d h = refl
end-blocks m (suc n) s d h =
    let t = m.next s (take 16 d) in
    let e = drop 16 d in
    let l : length e ≡ length d - 16 = length-drop 16 d in
    end-block m s d (omega arith) ∙ end-blocks m n t e (omega arith) ∙ ap (end_state m (stepped m n t e)) (tail_on d n)

-- before the first block
pub reached-first : (m : Mode) (s d o : List ℕ) → Reached m s d o s o 0
reached-first m s d o = record { within = omega arith; size = refl; ends = refl; leaves = refl }

-- the walk has come to where no full block is left, and the rest gives nothing: it has ended
pub walk-ended : {m : Mode} {s d o s' o' : List ℕ} {at : ℕ} → Reached m s d o s' o' at → length d < at + 16 → m.rest s' (drop at d) ≡ []
    → (s' ≡ end_state m s d) × (o' ≡ over (chain m s d) o)
walk-ended {m} {s} {d} {o} {s'} {o'} {at} R h e = (last-state m s' d at h ∙ R.ends, nothing_left m s' d o' at h e ∙ R.leaves)

-- n blocks more were written where the walk had come to
module _ (m : Mode) (s d o r p : List ℕ) (at : ℕ) (R : Reached m s d o r p at) where
  pub reached_on : (n : ℕ) (r' t : List ℕ) → at + 16 * n ≤ length d → at + 16 * n ≤ length p
      → ((i : ℕ) → i < n → length (gives m r (drop at d) i) ≡ 16) → r' ≡ stepped m n r (drop at d)
      → t ≡ over (cat n (gives m r (drop at d))) (tailed at p) → Reached m s d o r' (returned at p t) (at + 16 * n)
  reached_on n r' t hd hp full fr ft =
      let q = cat n (gives m r (drop at d)) in
      let lq : length q ≡ 16 * n = length-cat n (gives m r (drop at d)) full in
      let D = drop (length q) (drop at p) in
      let room : 16 * n ≤ length (drop at d) = rw length-drop (omega arith) in
      let la : length (take at p ++ q) ≡ at + 16 * n = length-append (take at p) q ∙ rw (length-take-le at p (omega arith), lq) in
      let e : returned at p t ≡ (take at p ++ q) ++ D =
      returned_is p t at ∙ rw (ft, tail_is p at) (sym (append_assoc (take at p) q D)) in
      let x : take (at + 16 * n) (returned at p t) ≡ take at p ++ q = rw e (take_at (take at p ++ q) D (at + 16 * n) la) in
      let y : drop (at + 16 * n) (returned at p t) ≡ D = rw e (drop_at (take at p ++ q) D (at + 16 * n) la) in
      let behind : drop (16 * n) (drop at d) ≡ drop (at + 16 * n) d = drop-drop (16 * n) at d in
      let C = chain m r' (drop (at + 16 * n) d) in
      let z : chain m r (drop at d) ≡ q ++ C =
      chain-blocks m n r (drop at d) room ∙ ap₂ (λ (u v : List ℕ). q ++ chain m u v) (sym fr) behind in
      let w : over (chain m r (drop at d)) (drop at p) ≡ q ++ over C D = rw z (over-append q C (drop at p)) in
      record {
        within = hd;
        size =
            ap length e ∙ length-append (take at p ++ q) D ∙ ap₂ (λ (u v : ℕ). u + v) la (length-drop (length q) (drop at p))
            ∙ rw (lq, length-drop at p) (let s = R.size in omega arith);
        ends = ap₂ (end_state m) fr (sym behind) ∙ sym (end-blocks m n r (drop at d) room) ∙ R.ends;
        leaves = rw (x, y) (append_assoc (take at p) q (over C D) ∙ ap (λ (u : List ℕ). take at p ++ u) (sym w)) ∙ R.leaves;
      }

  -- one block more was written there
  pub reached-next : (r' t : List ℕ) → at + 16 ≤ length d → at + 16 ≤ length p → length (m.block r (take 16 (tailed at d))) ≡ 16
      → r' ≡ m.next r (take 16 (tailed at d)) → t ≡ m.block r (take 16 (tailed at d)) ++ drop 16 (tailed at p)
      → Reached m s d o r' (returned at p t) (at + 16)
  unfolding stepped cat
  reached-next r' t hd hp full fr ft =
      let e = tail_is d at in
      let l = rw e at full in
      reached_on 1 r' t hd hp (λ i h. let z : i ≡ 0 = omega arith in rw z l) (rw e at fr)
      (rw e at ft ∙ ap (λ (k : ℕ). m.block r (take 16 (drop at d)) ++ drop k (tailed at p)) (sym l))

-- a mode whose state is the block before, and whose full blocks give full blocks
pub record FedBack (m : Mode) : Type 0 where
  pub state : (s b : List ℕ) → m.next s b ≡ b
  pub full : (s b : List ℕ) → length s ≡ 16 → length b ≡ 16 → length (m.block s b) ≡ 16

-- in such a mode: whatever walk has come behind the first block, to the output p, has come to `at`, and to the output o
pub record Fed (m : Mode) (d p o : List ℕ) (at : ℕ) : Type 0 where
  pub behind : 16 ≤ at
  pub whole : at % 16 ≡ 0
  pub within : at ≤ length d
  pub size : length o ≡ length p
  pub room : length d ≤ length o
  pub reached : (s o₀ : List ℕ) → Reached m s d o₀ (take 16 d) p 16 → Reached m s d o₀ (take 16 (drop (at - 16) d)) o at

pub fed_first : (m : Mode) (d p : List ℕ) → 16 ≤ length d → length d ≤ length p → Fed m d p p 16
fed_first m d p h r = record { behind = omega arith; whole = refl; within = h; size = refl; room = r; reached = λ s o R. R }

module _ (m : Mode) (F : FedBack m) where
  -- the states from a block on are the blocks from there on
  fed_back : (i : ℕ) (d : List ℕ) → stepped m i (take 16 d) (drop 16 d) ≡ block_at d i
  unfolding stepped
  fed_back zero d = refl
  fed_back (suc i) d =
      let e = drop 16 d in
      ap (λ (s : List ℕ). stepped m i s (drop 16 e)) (F.state (take 16 d) (take 16 e)) ∙ fed_back i e ∙ ap (take 16) (tail_on d i)

  module _ (d p : List ℕ) where
    -- n blocks more were written, each from the block before it
    pub fed_on : (o t : List ℕ) (at n : ℕ) → Fed m d p o at → at + 16 * n ≤ length d → length (returned at o t) ≡ length o
        → t ≡ over (cat n (λ i. m.block (block_at (tailed (at - 16) d) i) (block_at (tailed at d) i))) (tailed at o)
        → Fed m d p (returned at o t) (at + 16 * n)
    fed_on o t at n R h l e =
        let b = drop (at - 16) d in
        let c = drop at d in
        let s = take 16 b in
        let next : at - 16 + 16 ≡ at = omega (arith, R) in
        let states : (i : ℕ) → stepped m i s c ≡ block_at b i =
        λ i. ap (stepped m i s) (sym (drop-drop 16 (at - 16) d ∙ ap (λ (k : ℕ). drop k d) next)) ∙ fed_back i b in
        let last : at - 16 + 16 * n ≡ at + 16 * n - 16 = omega (arith, R) in
        let state : take 16 (drop (at + 16 * n - 16) d) ≡ stepped m n s c =
        sym (states n ∙ ap (take 16) (drop-drop (16 * n) (at - 16) d ∙ ap (λ (k : ℕ). drop k d) last)) in
        let wide : 16 * n ≤ length b = rw length-drop (omega (arith, R)) in
        let here : 16 * n ≤ length c = rw length-drop (omega arith) in
        let full : (i : ℕ) → i < n → length (gives m s c i) ≡ 16 =
        λ i g. F.full (stepped m i s c) (block_at c i) (rw (states i) (length-block_at b i n g wide)) (length-block_at c i n g here) in
        let same : cat n (λ i. m.block (block_at (tailed (at - 16) d) i) (block_at (tailed at d) i)) ≡ cat n (gives m s c) =
        cat-same n (λ i. m.block (block_at (tailed (at - 16) d) i) (block_at (tailed at d) i)) (gives m s c)
        (λ i g. rw (tail_is d at, tail_is d (at - 16)) (ap (λ (u : List ℕ). m.block u (block_at c i)) (sym (states i)))) in
        record {
          behind = omega (arith, R);
          whole = omega (arith, R);
          within = h;
          size = omega (arith, R);
          room = omega (arith, R);
          reached = λ u o₀ Q.
              reached_on m u d o₀ s o at (R.reached u o₀ Q) n (take 16 (drop (at + 16 * n - 16) d)) t h (omega (arith, R)) full state
              (e ∙ ap (λ (x : List ℕ). over x (tailed at o)) same);
        }

    -- the first block was written by itself, from the state s
    pub fed_reached : (s o₀ o : List ℕ) (at : ℕ) → Fed m d p o at → length s ≡ 16 → 16 ≤ length d → 16 ≤ length o₀
        → p ≡ m.block s (take 16 d) ++ drop 16 o₀ → Reached m s d o₀ (take 16 (drop (at - 16) d)) o at
    fed_reached s o₀ o at R hs hd ho e =
        let x = tail_is d 0 in
        let y = tail_is o₀ 0 in
        let b = take 16 d in
        R.reached s o₀
        (rw (returned_is o₀ p 0) at
        (reached-next m s d o₀ s o₀ 0 (reached-first m s d o₀) b p hd ho (rw x (F.full s b hs (length-take-le 16 d hd)))
        (rw x (sym (F.state s b))) (rw (x, y) e)))
