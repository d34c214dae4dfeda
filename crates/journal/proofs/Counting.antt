-- No count passes the place that a replay has come to, so no sum wraps.
use Rattle.journal.proofs.Names.{Below, Difference, Entry, List, None, Option, Recomputed, Some, false, first_of, refl, Report, Within, [], ◌+◌, ◌<◌, ◌∷◌, ◌≡◌, ◌≤◌, arith}
use Rattle.journal.proofs.Names.{below_at, below-replicate, by_test, counted, get_or, length, lit<, ltb, ltb-false, mode_place, nothing}
use Rattle.journal.proofs.Names.{one_more, set, suc, zero, ℕ}

below_more : (n m : ℕ) (l : List ℕ) → n ≤ m → Below n l → Below m l
below_more n m [] h b = tt
below_more n m (x ∷ l) h (s, b) = (omega arith, below_more n m l h b)

below_set : (n i v : ℕ) (l : List ℕ) → v < n → Below n l → Below n (set l i v)
below_set n i v [] h b = tt
below_set n zero v (x ∷ l) h (s, b) = (h, b)
below_set n (suc i) v (x ∷ l) h (s, b) = (s, below_set n i v l h b)

one_more_below : (n m i : ℕ) (l : List ℕ) → n < m → Below (suc n) l → Below (suc m) (one_more i l)
one_more_below n m i l h b =
    let x = below_at (suc n) l (omega arith) b i in
    below_set (suc m) i (get_or l i 0 + 1) l (omega arith) (below_more (suc n) (suc m) l (omega arith) b)

pub mode-below_6 : (n : ℕ) → mode_place n < 6
mode-below_6 n = by_test (ltb 4 n) (λ e. rw e (omega arith)) (λ e. rw e (omega (arith, ltb-false 4 n e)))

pub within-nothing : Within 0 nothing
within-nothing = search (arith, below-replicate 1 6 0 (lit< tt), below-replicate 1 32 0 (lit< tt))

-- reports are equal by their fields
pub same-report : {n n' i i' o o' : ℕ} {m m' a a' : List ℕ} {d d' : Option Difference} → n ≡ n' → m ≡ m' → a ≡ a' → i ≡ i' → o ≡ o' → d ≡ d'
    → ◌≡◌ {A = Report} (record { records = n; by_mode = m; by_answer = a; bytes_in = i; bytes_out = o; first = d })
    (record { records = n'; by_mode = m'; by_answer = a'; bytes_in = i'; bytes_out = o'; first = d' })
same-report a b c d e f = rw (a, b, c, d, e, f)

-- where nothing differs, the first difference is as it was
pub same_first : (n place : ℕ) (d : Option Difference) → first_of false n place d ≡ d
same_first n place (Some d) = refl
same_first n place None = refl

-- one more record, of so many bytes
pub within-counted : (e : Entry) (x : Recomputed) (place size : ℕ) (r : Report) → Within place r → 27 + length e.«data» ≤ size
    → x.length ≤ 16 + length e.«data» → Within (place + size) (counted e x place r)
unfolding counted
within-counted e x place size r w h k =
    record {
      records = omega arith;
      by_mode = one_more_below place (place + size) (mode_place e.mode) r.by_mode (omega arith) w.by_mode;
      by_answer = one_more_below place (place + size) x.number r.by_answer (omega arith) w.by_answer;
      bytes_in = omega arith;
      bytes_out = omega arith;
    }
