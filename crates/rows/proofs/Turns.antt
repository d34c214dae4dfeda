-- The turns of the two loops of a stage.
use Rattle.block.proofs.Base.{◌*◌, ◌+◌, ◌<◌, ◌^◌, ◌≤◌, suc, ℕ, ◌∙◌, ◌≡◌, refl, sym, List, mul-le-mul_left, mul-suc, add-one, arith, get_or}
use Rattle.block.proofs.Base.{length-set, set, get_or-set_other, get_or-set_same}
use Rattle.lanes.proofs.Filling.{one_more}
use Rattle.lanes.specs.Swaps.{first_swapped, second_swapped}
use Rattle.rows.specs.Transposed.{Pair, Swapped, Staged}

-- a pair in lists that have the same words there
pair_same : {d m p q : ℕ} {a₀ a b₀ b : List ℕ} → Pair d m p q a₀ a → get_or b₀ p 0 ≡ get_or a₀ p 0 → get_or b₀ q 0 ≡ get_or a₀ q 0
    → get_or b p 0 ≡ get_or a p 0 → get_or b q 0 ≡ get_or a q 0 → Pair d m p q b₀ b
pair_same P e f g h = record {
  first = rw (e, f, g) P.first;
  second = rw (e, f, h) P.second;
  first_small = rw g P.first_small;
  second-small = rw h P.second-small;
}

-- a turn: u and v are the next pair, swapped
module _ (d m g w e u v : ℕ) (a₀ a : List ℕ) (he : e < w) (hw : g + w + w ≤ 512) (S : Swapped d m g w e a₀ a)
    (hu : u ≡ first_swapped d m (get_or a (g + e) 0) (get_or a (g + e + w) 0)) (su : u < 2 ^ 64)
    (hv : v ≡ second_swapped d m (get_or a (g + e) 0) (get_or a (g + e + w) 0)) (sv : v < 2 ^ 64) where
  pub swapped_next : Swapped d m g w (e + 1) a₀ (set (set a (g + e) u) (g + e + w) v)
  swapped_next =
      let b = set a (g + e) u in
      let a' = set b (g + e + w) v in
      let s = S.size in
      let n = length-set a (g + e) u in
      let other : (p : ℕ) → (p ≡ g + e → ⊥) → (p ≡ g + e + w → ⊥) → get_or a' p 0 ≡ get_or a p 0 =
      λ p f h. get_or-set_other b (g + e + w) p v 0 h ∙ get_or-set_other a (g + e) p u 0 f in
      let x : get_or a' (g + e) 0 ≡ u =
      get_or-set_other b (g + e + w) (g + e) v 0 (λ q. omega arith) ∙ get_or-set_same a (g + e) u 0 (omega arith) in
      let y : get_or a' (g + e + w) 0 ≡ v = get_or-set_same b (g + e + w) v 0 (omega arith) in
      record {
        size = length-set b (g + e + w) v ∙ n ∙ s;
        pairs = one_more (λ r. Pair d m (g + r) (g + r + w) a₀ a') e
            (pair_same {a₀ = a} {a = a'} (record { first = x ∙ hu; second = y ∙ hv; first_small = rw x su; second-small = rw y sv })
            (sym (S.rest (g + e) (omega arith))) (sym (S.rest (g + e + w) (omega arith))) refl refl)
            (λ r k. pair_same (S.pairs r k) refl refl (other _ (omega arith) (omega arith)) (other _ (omega arith) (omega arith)));
        rest = λ p h. other p (h e (omega arith)).0 (h e (omega arith)).1 ∙ S.rest p (λ r k. h r (omega arith));
      }

pub groups : (w i n : ℕ) → i < n → 2 * w * i + 2 * w ≤ 2 * w * n
groups w i n h =
    let e : 2 * w * suc i ≡ 2 * w * i + 2 * w = mul-suc (2 * w) i in
    let l : 2 * w * suc i ≤ 2 * w * n = mul-le-mul_left (2 * w) h in
    omega arith

pub staged_next : (d m w i : ℕ) (a₀ a a' : List ℕ) → Staged d m w i a₀ a → Swapped d m (2 * w * i) w w a a' → Staged d m w (i + 1) a₀ a'
staged_next d m w i a₀ a a' S W =
    let below : (p : ℕ) → p < 2 * w * i → get_or a' p 0 ≡ get_or a p 0 = λ p h. W.rest p (omega arith) in
    let n : 2 * w * (i + 1) ≡ 2 * w * i + 2 * w = rw (add-one i) (mul-suc (2 * w) i) in
    record {
      size = W.size;
      pairs = λ l r h k.
          one_more (λ z. Pair d m (2 * w * z + r) (2 * w * z + r + w) a₀ a') i
          (pair_same (W.pairs r k) (sym (S.rest _ (omega arith))) (sym (S.rest _ (omega arith))) refl refl)
          (λ z g. let b = groups w z i g in pair_same (S.pairs z r g k) refl refl (below _ (omega arith)) (below _ (omega arith)))
          l h;
      rest = λ p h. W.rest p (omega arith) ∙ S.rest p (omega arith);
    }
