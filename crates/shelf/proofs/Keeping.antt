-- A collection, record by record: one that stays is moved down behind those that stayed, and what is to come is as it was.
use Rattle.shelf.proofs.Names.{AreBytes, Head, List, None, Option, ◌&&◌, ◌++◌, ◌+◌, ◌-◌, ◌∙◌, ◌≡◌, ◌≤◌, ap, append_assoc, append-nil, ap₂}
use Rattle.shelf.proofs.Names.{arith, below-drop, below-take, comes, drop, drop-drop, drop-paste, false, head_at, length, length-drop}
use Rattle.shelf.proofs.Names.{length-paste, length-take-le, not, over, paste, records, refl, stays, stored, sub-zero, sym, take}
use Rattle.shelf.proofs.Names.{take-append-drop, take-paste, those, true, ℕ}
use Rattle.shelf.proofs.ReadsProper.{between, Turn, at-end}

-- the bytes that are kept of b
abbrev pub kept : Option ℕ → List ℕ → List ℕ
kept coming b = stored (those (stays coming) (records b))

-- what is behind `to` is as it was, and so is what is to come
between_same : (to at used : ℕ) (s s₀ : List ℕ) → to ≤ at → drop to s ≡ drop to s₀ → between at used s ≡ between at used s₀
between_same to at used s s₀ h e =
    let k : at ≡ to + (at - to) = omega arith in
    let f : drop at s ≡ drop at s₀ = rw (k, ← drop-drop (at - to) to s, ← drop-drop (at - to) to s₀, e) in
    ap (take (used - at)) f

-- how far a collection has come: the records up to `at` are done with, and what stays of them stands before `to`
pub record Collecting (coming : Option ℕ) (s₀ : List ℕ) (used : ℕ) (s : List ℕ) (to at : ℕ) : Type 0 where
  pub below : to ≤ at
  pub inside : at ≤ used
  pub long : length s ≡ length s₀
  -- nothing from `to` on has changed
  pub behind : drop to s ≡ drop to s₀
  -- with what stays of the records to come, it is all that stays
  pub all : take to s ++ kept coming (between at used s) ≡ kept coming (take used s₀)

pub collecting_starts : (coming : Option ℕ) (s : List ℕ) (used : ℕ) → Collecting coming s used s 0 0
collecting_starts coming s used =
    record { below = omega arith; inside = omega arith; long = refl; behind = refl; all = rw sub-zero }

module _ {coming : Option ℕ} {s₀ : List ℕ} {used : ℕ} {s : List ℕ} {to at : ℕ} (room : used ≤ length s₀)
    (so_far : Collecting coming s₀ used s to at) where
  -- the end: all that is kept stands at the front
  pub all_kept : None ≡ head_at (between at used s)
      → (to ≡ length (kept coming (take used s₀))) × (s ≡ over (kept coming (take used s₀)) s₀)
  unfolding those stored
  all_kept e =
      let none = at-end s used at e in
      let front : take to s ≡ kept coming (take used s₀) = sym (append-nil (take to s)) ∙ (rw none at so_far.all) in
      let long : to ≡ length (kept coming (take used s₀)) = sym (length-take-le to s (omega arith)) ∙ ap length front in
      (long, sym (take-append-drop to s) ∙ ap₂ ◌++◌ front (so_far.behind ∙ ap (λ (k : ℕ). drop k s₀) long))

  -- a turn
  module _ {h : Head} (t : Turn s used at h) {s' : List ℕ} {to' : ℕ} where
    -- it stays
    pub stay_turn : AreBytes s₀ → not (comes coming h.job) && h.current ≡ true → s' ≡ paste s to (drop at s) h.size
        → to' ≡ to + h.size → Collecting coming s₀ used s' to' (at + h.size)
    unfolding those stored
    stay_turn small stay e g =
        let n = h.size in
        let l = length-drop at s in
        let moved = drop-paste s to (drop at s) n (omega arith) (omega arith) in
        let here : AreBytes (between at used s) =
        rw (between_same to at used s s₀ so_far.below so_far.behind)
        (below-take 256 (used - at) (drop at s₀) (below-drop 256 at s₀ small)) in
        record {
          below = omega arith;
          inside = t.within;
          long = ap length e ∙ length-paste s to (drop at s) n (omega arith) (omega arith) ∙ so_far.long;
          behind = rw (e, g) (moved ∙ sym (drop-drop n to s) ∙ ap (drop n) so_far.behind ∙ drop-drop n to s₀);
          all =
              rw (
                e,
                g,
                take-paste s to (drop at s) n (omega arith) (omega arith),
                between_same (to + n) (at + n) used (paste s to (drop at s) n) s (omega arith) moved,
                append_assoc,
              )
              (rw (t.reads, stay, t.bytes here) at so_far.all);
        }

    -- it does not
    pub gone_turn : not (comes coming h.job) && h.current ≡ false → s' ≡ s → to' ≡ to
        → Collecting coming s₀ used s' to' (at + h.size)
    unfolding those
    gone_turn gone e g =
        record {
          below = omega arith;
          inside = t.within;
          long = ap length e ∙ so_far.long;
          behind = rw (e, g) so_far.behind;
          all = rw (e, g) (rw (t.reads, gone) at so_far.all);
        }
