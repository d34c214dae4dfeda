-- A mode above 4 is refused, and otherwise the call answers.
use Rattle.journal.proofs.Names.{Answer, Answered, Answers, CipherMode, Entry, Err, List, Ok, Outcome, Sm4Cipher, ◌∙◌, ◌≡◌, by_test, call_into, false}
use Rattle.journal.proofs.Names.{ltb, mode_of, outcome, refl, true, ℕ}
use Rattle.cipher_mode.specs.Answer.{head_of}
use Rattle.cipher_mode.specs.Tables.{mode_numbered}
use Rattle.cipher_mode.specs.declared.BadMode.{BadMode}
use Rattle.journal.proofs.again.call_into.Goals as goal

-- what a mode's number tells
numbered : (n : ℕ) (m : CipherMode) → Ok m ≡ mode_numbered n → (ltb 4 n ≡ false) × (m ≡ mode_of n)
numbered n m e =
    by_test (ltb 4 n) (λ t. let f : Ok m ≡ Err (record {}) = rw t at e in cc)
    (λ t. let f : Ok m ≡ Ok (mode_of n) = rw t at e in (t, cc))

no_number : (n : ℕ) (x : BadMode) → Err x ≡ mode_numbered n → ltb 4 n ≡ true
no_number n x e = by_test (ltb 4 n) (λ t. t) (λ t. let f : Err x ≡ Ok (mode_of n) = rw t at e in cc)

bad-mode : (c : Sm4Cipher) (e : Entry) (o : List ℕ) → ltb 4 e.mode ≡ true
    → Answers (record { number = 7; length = 0 }) o (call_into c e o)
unfolding call_into
bad-mode c e o t = record { number = rw t; size = rw t; bytes = rw t }

-- an outcome is told by its answer
told-outcome : (a : Answer) (t : Answered) (o : List ℕ) (x : Outcome) → outcome a o ≡ x
    → t ≡ record { number = (head_of a).number; length = (head_of a).size } → Answers t o x
told-outcome a t o x e f = rw (f, ← e) (record { number = refl; size = refl; bytes = refl })

pub returns-in_default : goal.returns-in_default
returns-in_default c = bad-mode c.args.cipher _ _ (no_number _ _ c.in_default.ensures)

pub returns : goal.returns
unfolding call_into
returns c =
    let mode = numbered _ _ c.in-Ok.ensures in
    told-outcome c.call.result c.from.result _ _ (c.call.ensures ∙ rw (mode.0, mode.1)) c.from.ensures
