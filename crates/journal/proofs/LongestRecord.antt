-- A record within the limits has at most 65,579 bytes: one that does not stand whole in as many is cut, or a part of it is too long.
use Rattle.journal.proofs.Names.{AreBytes, List, Stands, ◌++◌, ◌≡◌, ◌≤◌, arith, by_test, false, front, length, size_at, starts_record}
use Rattle.journal.proofs.Names.{sym, take-append-le, too_long, true, ℕ}
use Rattle.journal.proofs.Cases.{clash, short}
use Rattle.journal.proofs.Standing.{stands, size-sum, starts_in}

pub longest : (b : List ℕ) → Stands b → too_long (front b) ≡ false → size_at b ≤ 65579
unfolding front
longest b s t =
    let w = short (front b) t in
    let n = size-sum b s in
    omega arith

module _ (s rest : List ℕ) (small : AreBytes (s ++ rest)) (window : 65579 ≤ length s) (none : starts_record s ≡ false)
    (whole : starts_record (s ++ rest) ≡ true) where
  -- were it within the limits, it would stand in s
  in_window : too_long (front (s ++ rest)) ≡ false → starts_record s ≡ true
  in_window t =
      let b = s ++ rest in
      let there = stands b whole in
      let k = longest b there t in
      starts_in b s there (sym (take-append-le (size_at b) s rest (omega arith)))

  -- A record that stands whole, and not in a window of so many bytes, is too long.
  pub window_tells : too_long (front (s ++ rest)) ≡ true
  window_tells = by_test (too_long (front (s ++ rest))) (λ e. e) (λ e. absurd (clash (starts_record s) (in_window e) none))
