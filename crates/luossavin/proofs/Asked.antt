-- A question with one candidate, of six bytes: its verdict, as an answer, is what is asked of a job and an edition.
use Rattle.std.specs.Prelude.{Option, Some, None, Result, Ok, Err}
use Rattle.block.proofs.Base.{ℕ, ◌≡◌, refl, sym, Bool, cond, false, true, List, [], ◌∷◌, arith, ne_eqb, eqb, length, take_all}
use Rattle.cipher_mode.specs.Outcome.{Head, under, finished, refusal}
use Rattle.cipher_mode.specs.declared.Sm4Cipher.{Sm4Cipher}
use Rattle.cipher_mode.specs.declared.CipherMode.TheVariants.{Gcm}
use Rattle.cipher_mode.specs.declared.Direction.TheVariants.{Decrypt}
use Rattle.cipher_mode.specs.Checks.{Checked, and_then, key_and_iv, data_check}
use Rattle.cipher_mode.specs.Key.{key_number}
use Rattle.cipher_mode.proofs.Refusals.{refuses}
use Rattle.editions.specs.Candidates.{sum, bad_list, any_too_long}
use Rattle.editions.specs.Which.{Verdict, none_with, found_at, on_key, first_opening, search_check, checked_verdict, opens_with, which}
use Rattle.editions.specs.Which.{verdict_of}
use Rattle.editions.specs.declared.Candidate.{Candidate}
use Rattle.editions.specs.declared.Unanswered.{Unanswered}
use Rattle.editions.specs.declared.Unanswered.TheVariants.{BadList, Refused as RefusedThere}
use Rattle.editions.specs.declared.Found.{Found}
use Rattle.luossavin.specs.Edition.{checked_head, opens_head}
use Rattle.luossavin.specs.Which.{Told, told_of, ended_head}

abbrev pub Ended : Type 0
Ended = Result (Option Candidate) Unanswered

-- what a host is told of a question, where no candidate is no refusal: of the one that is found, of none, and of a refusal
abbrev pub told_as : Found → ℕ → ℕ → ℕ → ℕ → Told
told_as f found place start size =
    record { head = under f.key (ended_head 0 f.ended); found = found; place = place; start = start; size = size }

pub told_found : (f : Found) (d : Candidate) → f.ended ≡ Ok (Some d) → told_as f 1 d.place d.start d.length ≡ told_of (verdict_of f)
told_found f d e = rw e

pub told_place : (f : Found) (d : Candidate) → f.ended ≡ Ok (Some d) → (verdict_of f).place ≡ d.place
told_place f d e = rw e

pub told_none : (f : Found) → f.ended ≡ Ok None → told_as f 0 0 0 0 ≡ told_of (verdict_of f)
told_none f e = rw e

pub told_refused : (f : Found) (r : Unanswered) → f.ended ≡ Err r → told_as f 0 0 0 0 ≡ told_of (verdict_of f)
told_refused f r e = rw e

-- a verdict on one candidate, as an answer
abbrev pub to_one : Verdict → Head
to_one v = cond v.found v.head (cond (eqb v.head.number 0) (under v.head.key (refusal 4)) v.head)

to_one_lem : (e : Ended) (f : Found) → f.ended ≡ e → to_one (verdict_of f) ≡ under f.key (ended_head 4 e)
to_one_lem (Ok (Some c)) f h = rw h
to_one_lem (Ok None) f h = rw h
to_one_lem (Err BadList) f h = rw h
to_one_lem (Err (RefusedThere r)) f h = rw (h, ne_eqb _ _ (refuses r).not-zero)

pub asked_ended : (f : Found) → under f.key (ended_head 4 f.ended) ≡ to_one (verdict_of f)
asked_ended f = sym (to_one_lem f.ended f refl)

module _ (c : Sm4Cipher) (label file iv : List ℕ) (six : length label ≡ 6) where
  answered : (k : Checked) (t : Bool)
      → to_one (on_key (key_number c) (checked_verdict k (cond t (found_at 0 0 6) (none_with (finished 0)))))
      ≡ under (key_number c) (checked_head k (cond t (finished 0) (refusal 4)))
  answered (Ok _) true = refl
  answered (Ok _) false = refl
  answered (Err r) t = rw (ne_eqb _ _ (refuses r).not-zero)

  pub one_candidate : to_one (which c file iv label (6 ∷ [])) ≡ under (key_number c) (opens_head c label file iv)
  unfolding which opens_head bad_list sum search_check any_too_long first_opening
  one_candidate =
      rw (six, take_all 6 label (omega (arith, six)))
      (answered (and_then (key_and_iv c.answer c.retired Decrypt Gcm (length iv)) (data_check Decrypt Gcm (length file)))
      (opens_with c iv file label))
