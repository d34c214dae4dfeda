-- Blocks that stand in rows: none, one more, and the bytes of one.
use Rattle.block.proofs.Base.{◌+◌, ◌<◌, ℕ, ◌∙◌, ◌≡◌, List, arith, get_or, length, length-set, set, get_or-set_other, get_or-set_same}
use Rattle.lanes.proofs.Filling.{one_more}
use Rattle.rows.specs.Rows.{place, Row, Rows}

pub no_rows : (f : ℕ → List ℕ) (a b : List ℕ) → length a ≡ 512 → length b ≡ 512 → Rows 0 f a b
no_rows f a b ha hb = record { size_a = ha; size_b = hb; row = λ i h. absurd (omega arith) }

module _ (f : ℕ → List ℕ) (a b : List ℕ) (i p u v : ℕ) (hi : i < 512) (hp : p ≡ place i) (R : Rows i f a b) where
  pub one_more_row : Row (f i) u v → Rows (i + 1) f (set a p u) (set b p v)
  one_more_row r =
      let la = R.size_a in
      let lb = R.size_b in
      let l : p < 512 = omega arith in
      record {
        size_a = length-set a p u ∙ la;
        size_b = length-set b p v ∙ lb;
        row = one_more (λ k. Row (f k) (get_or (set a p u) (place k) 0) (get_or (set b p v) (place k) 0)) i
            (rw (← hp, get_or-set_same a p u 0 (omega arith), get_or-set_same b p v 0 (omega arith)) r)
            (λ k g.
            let n : place k ≡ p → ⊥ = λ e. omega arith in
            rw (get_or-set_other a p (place k) u 0 n, get_or-set_other b p (place k) v 0 n) (R.row k g));
      }
