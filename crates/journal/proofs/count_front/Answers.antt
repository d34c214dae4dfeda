-- Each return is the definition, by the tests that led there.
use Rattle.journal.proofs.Names.{BadRecord, Entry, Err, List, None, Ok, Some, by_test, key_of, Report, Result, Sm4Cipher, Stop, TooLong, UnknownKey, ap, arith, false, front}
use Rattle.journal.proofs.Names.{Recomputed, counted, counted_under, has_number, judged, recomputed, key_found, replay_one, sym, true, ◌∙◌, ◌≡◌, ℕ}
use Rattle.std.specs.Result.{IsErr, IsErrAnd, MatchResult}
use Rattle.journal.proofs.Standing.{behind-size, data-within, size-within, starts}
use Rattle.journal.proofs.Replaying.{Passes, Refuses, refuses, counts}
use Rattle.journal.proofs.count_front.Goals as goal

-- what an error tells is passed on
stopped : {A : Type 0} (r : Result A Stop) (P Q : Stop → Type 0) (O : A → Type 0) → IsErr r → IsErrAnd r P → ((e : Stop) → P e → Q e)
    → MatchResult r O Q
stopped (Err e) P Q O i p f = f e p
stopped (Ok a) P Q O i p f = absurd p

-- so the replay stops
stops : (ks : List Sm4Cipher) (b : List ℕ) (place : ℕ) (r : Report) (e x : Stop) → e ≡ x → Refuses ks b x
    → replay_one ks b place r ≡ Err (record { why = e; place = place; report = r })
stops ks b place r e x f w = rw f (refuses ks b place r x w).0

-- what was found of the keys
found : (n : ℕ) (ks : List Sm4Cipher) (k : Sm4Cipher) → Some k ≡ key_found n ks → (has_number n ks ≡ true) × (k ≡ key_of n ks)
found n ks k e =
    by_test (has_number n ks) (λ t. let f : Some k ≡ Some (key_of n ks) = rw t at e in (t, cc))
    (λ t. let f : Some k ≡ None = rw t at e in cc)

none : (n : ℕ) (ks : List Sm4Cipher) → None ≡ key_found n ks → has_number n ks ≡ false
none n ks e = by_test (has_number n ks) (λ t. let f : None ≡ Some (key_of n ks) = rw t at e in cc) (λ t. t)

-- what was found is counted
recounted : (ks : List Sm4Cipher) (b : List ℕ) (place : ℕ) (r : Report) (e : Entry) (k : Sm4Cipher) (x : Recomputed) (more : Report)
    → e ≡ front b → k ≡ key_of e.key ks → x ≡ judged e (recomputed k e) → more ≡ counted e x place r
    → counted_under ks (front b) place r ≡ more
recounted ks b place r e k x more f g h i = sym (i ∙ rw (h, g, f))

pub returns-in_err-call : goal.returns-in_err-call
returns-in_err-call c =
    let (i, p) = c.from_residual.ensures in
    let w : Err c.in_err-call.field-0.0 ≡ Err BadRecord = c.in_err-call.ensures.value ∙ rw c.in_err-call.ensures.ok_part in
    let x : c.in_err-call.field-0.0 ≡ BadRecord = cc in
    let n = rw c.in_err-call.ensures.ok_part at c.read.ensures in
    stopped _ _ _ _ i p (λ e f. stops c.args.keys.now _ _ _ e BadRecord (f ∙ x) n)

pub returns-then-too_long : goal.returns-then-too_long
returns-then-too_long c =
    let read = rw c.in_ok-call.ensures.ok_part at c.read.ensures in
    (refuses c.args.keys.now _ _ _ TooLong (starts _ read.stands, rw (← read.entry) (sym c.if-too_long.ensures))).0

pub returns-in_err-key : goal.returns-in_err-key
returns-in_err-key c =
    let read = rw c.in_ok-call.ensures.ok_part at c.read.ensures in
    let (i, p) = c.from_residual-in_err-key.ensures in
    let w : Err c.in_err-key.field-0.0 ≡ Err UnknownKey = c.in_err-key.ensures.value ∙ rw c.in_err-key.ensures.ok_part in
    let x : c.in_err-key.field-0.0 ≡ UnknownKey = cc in
    let n = none _ _ (sym c.in_err-key.ensures.ok_part ∙ c.find.ensures) in
    stopped _ _ _ _ i p
    (λ e f.
    stops c.args.keys.now _ _ _ e UnknownKey (f ∙ x)
    (starts _ read.stands, rw (← read.entry) (sym c.if-too_long.ensures), rw (← read.entry) n))

pub counted-requires-clause-data_bound : goal.counted-requires-clause-data_bound
counted-requires-clause-data_bound c =
    let read = rw c.in_ok-call.ensures.ok_part at c.read.ensures in
    let within = rw (← read.entry) at (data-within _ read.stands) in
    omega (arith, size-within _ read.stands, c.requires.s_bound)

pub returns : goal.returns
returns c =
    let b = c.args.s.now in
    let ks = c.args.keys.now in
    let read = rw c.in_ok-call.ensures.ok_part at c.read.ensures in
    let key = found _ _ _ (sym c.in_ok-key.ensures.ok_part ∙ c.find.ensures) in
    let passes : Passes ks b =
    (starts b read.stands, rw (← read.entry) (sym c.if-too_long.ensures), rw (← read.entry) key.0) in
    record {
      counted =
          sym (counts ks b c.args.place c.args.report passes)
          ∙ ap Ok (recounted ks b _ _ _ _ _ _ read.entry key.1 c.recompute-recomputed.ensures.value c.counted.ensures);
      rest = read.rest ∙ sym (behind-size b read.stands);
    }
