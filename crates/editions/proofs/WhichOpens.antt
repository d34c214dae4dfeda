-- Where nothing stands against the question, a candidate is found exactly where it is the first that opens the file, and none
-- exactly where none opens it; the part handed back is that candidate. An answer of found or of none tells that nothing stood against.
use Rattle.block.proofs.Base.{◌+◌, ◌<◌, ◌≤◌, suc, zero, ℕ, ◌≡◌, ap, refl, Bool, cond, false, false≢true, true, true≢false, List}
use Rattle.block.proofs.Base.{[], ◌∷◌, arith, le-ltb, drop, get_or, length, take}
use Rattle.cipher_mode.specs.Outcome.{Head, finished, refusal, under}
use Rattle.cipher_mode.specs.declared.Sm4Cipher.{Sm4Cipher}
use Rattle.cipher_mode.specs.Checks.{Checked}
use Rattle.std.proofs.Common.{Ok, Err}
use Rattle.cipher_mode.specs.Answer.{refusal_head}
use Rattle.cipher_mode.specs.Key.{key_number}
use Rattle.cipher_mode.proofs.Refusals.{refuses}
use Rattle.editions.specs.Candidates.{sum, bad_list, label_at}
use Rattle.editions.specs.Which.{Verdict, none_with, on_key, first_opening, search_check, checked_verdict, opens_with, which, part_of}
use Rattle.editions.proofs.Passed.{at_most_64, adds_up}
use Rattle.editions.proofs.Turns.{sum_turn}
use Rattle.editions.proofs.FirstOpening.{IsFirst, NonePasses, candidate, by_search, first_is_found, none_is_found}

sum_cut : (ns : List ℕ) (i : ℕ) → sum (take i ns) + sum (drop i ns) ≡ sum ns
unfolding sum
sum_cut ns zero = omega arith
sum_cut [] (suc i) = omega arith
sum_cut (n ∷ ns) (suc i) = omega (arith, sum_cut ns i)

-- nothing stands against the question
pub record Asked (c : Sm4Cipher) (file iv labels lengths : List ℕ) : Type 0 where
  pub list : bad_list labels lengths ≡ false
  pub checks : search_check c.answer c.retired (length iv) (length file) lengths ≡ Ok tt

-- a candidate was found: the first that opens the file; start and size point to it inside the buffer, and the part handed back is that
-- candidate
pub record FoundThere (c : Sm4Cipher) (file iv labels lengths : List ℕ) (v : Verdict) : Type 0 where
  pub asked : Asked c file iv labels lengths
  pub first : IsFirst (opens_with c iv file) labels lengths v.place
  pub inside : v.start + v.size ≤ length labels
  pub there : take v.size (drop v.start labels) ≡ label_at labels lengths v.place
  pub part : part_of v labels ≡ label_at labels lengths v.place

-- none was found: nothing stood against the question, and no candidate opens the file
pub record NoneThere (c : Sm4Cipher) (file iv labels lengths : List ℕ) : Type 0 where
  pub asked : Asked c file iv labels lengths
  pub none : NonePasses (opens_with c iv file) labels lengths

module _ (c : Sm4Cipher) (file iv labels lengths : List ℕ) where
  abbrev search : Verdict
  search = first_opening (opens_with c iv file) labels lengths 0 0

  abbrev k : ℕ
  k = key_number c

  -- what holds on this key of the first that opens the file, and of none, and of every refusal, holds of the verdict
  by_verdict : (P : Verdict → Type 0)
      → (Asked c file iv labels lengths → (i : ℕ) → IsFirst (opens_with c iv file) labels lengths i → P (on_key k (candidate lengths i)))
      → (Asked c file iv labels lengths → NonePasses (opens_with c iv file) labels lengths → P (on_key k (none_with (finished 0))))
      → ((h : Head) → (h.number ≡ 0 → ⊥) → P (none_with h)) → P (which c file iv labels lengths)
  unfolding which
  by_verdict P hit miss refuse = by (bad_list labels lengths) (search_check c.answer c.retired _ _ lengths) refl refl
    where
      by : (bad : Bool) (s : Checked) → bad_list labels lengths ≡ bad
          → search_check c.answer c.retired (length iv) (length file) lengths ≡ s
          → P (cond bad (none_with (refusal 16)) (on_key k (checked_verdict s search)))
      by true s e f = refuse (refusal 16) (λ z. omega arith)
      by false (Err r) e f = refuse (under k (refusal_head r)) (refuses r).not-zero
      by false (Ok _) e f =
          let a : Asked c file iv labels lengths = record { list = e; checks = f } in
          by_search (opens_with c iv file) labels lengths (λ v. P (on_key k v)) (hit a) (miss a)

  pub first-opens : Asked c file iv labels lengths → (i : ℕ) → IsFirst (opens_with c iv file) labels lengths i
      → which c file iv labels lengths ≡ on_key (key_number c) (candidate lengths i)
  unfolding which
  first-opens a i f = rw (a.list, a.checks) (ap (on_key k) (first_is_found (opens_with c iv file) labels lengths i f))

  pub none-opens : Asked c file iv labels lengths → NonePasses (opens_with c iv file) labels lengths
      → which c file iv labels lengths ≡ on_key (key_number c) (none_with (finished 0))
  unfolding which
  none-opens a f = rw (a.list, a.checks) (ap (on_key k) (none_is_found (opens_with c iv file) labels lengths f))

  -- an answer that is no refusal tells that nothing stood against
  pub done_asked : (which c file iv labels lengths).head.number ≡ 0 → Asked c file iv labels lengths
  done_asked = by_verdict (λ v. v.head.number ≡ 0 → Asked c file iv labels lengths) (λ a i f e. a) (λ a f e. a) (λ h no e. absurd (no e))

  pub found-opens : (which c file iv labels lengths).found ≡ true → FoundThere c file iv labels lengths (which c file iv labels lengths)
  unfolding label_at part_of
  found-opens =
      by_verdict (λ v. v.found ≡ true → FoundThere c file iv labels lengths v)
      (λ a i f e.
      let within : sum (take i lengths) + get_or lengths i 0 ≤ length labels =
      omega (arith, sum_cut lengths i, sum_turn lengths i f.inside, adds_up labels lengths a.list) in
      record { asked = a; first = f; inside = within; there = refl; part = rw (le-ltb _ _ within) })
      (λ a f e. absurd (false≢true e)) (λ h no e. absurd (false≢true e))

  pub none_found : (which c file iv labels lengths).found ≡ false → (which c file iv labels lengths).head.number ≡ 0
      → NoneThere c file iv labels lengths
  none_found =
      by_verdict (λ v. v.found ≡ false → v.head.number ≡ 0 → NoneThere c file iv labels lengths) (λ a i f e z. absurd (true≢false e))
      (λ a f e z. record { asked = a; none = f }) (λ h no e z. absurd (no z))

  -- place, start and size are 0 unless a candidate is found
  pub zero_unless_found : (which c file iv labels lengths).found ≡ false
      → which c file iv labels lengths ≡ none_with (which c file iv labels lengths).head
  zero_unless_found =
      by_verdict (λ v. v.found ≡ false → v ≡ none_with v.head) (λ a i f e. absurd (true≢false e)) (λ a f e. refl) (λ h no e. refl)

  pub place-below_64 : (which c file iv labels lengths).place < 64
  place-below_64 =
      by_verdict (λ v. v.place < 64) (λ a i f. omega (arith, f.inside, at_most_64 labels lengths a.list)) (λ a f. omega arith)
      (λ h no. omega arith)
