-- What a call leaves, by its parts.
use Rattle.pieces.proofs.Names.{Head, List, Stepped, ◌≡◌, ℕ}

module _ (S : Type 0) where
  abbrev pub step : Head → List ℕ → S → Stepped S
  step h o s = record { head = h; bytes = o; state = s }

  pub same_step : (h k : Head) (o p : List ℕ) (s t : S) → h ≡ k → o ≡ p → s ≡ t → step h o s ≡ step k p t
  same_step h k o p s t e f g = rw (e, f, g)
