-- What a writer of records leaves, as a call's outcome.
use Rattle.std.specs.Prelude.{Ok, Err, Result, ◌+◌, ◌<◌}
use Rattle.std.specs.Result.{OkIff, result_unwrap_or}
use Rattle.block.proofs.Base.{ℕ, ◌≡◌, arith, refl, Bool, cond, false, true, List, ltb, le-ltb, lt-ltb, length}
use Rattle.cipher_mode.specs.Outcome.{Outcome, leaving, refuse, done}
use Rattle.block.specs.Over.{over}
use Rattle.journal.specs.Format.{Entry, written, too_long}
use Rattle.journal.specs.Writer.{Leaves, write}
use Rattle.journal.specs.declared.writer.Unwritten.TheVariants.{TooLong, NoRoom}
use Rattle.luossavin.specs.Recording.{at_most, recorded, wrote_head}

abbrev pub leaves_outcome : Leaves → Outcome
leaves_outcome l = leaving (wrote_head l.wrote) l.bytes

by_tests : (long short : Bool) (p o : List ℕ)
    → leaves_outcome (cond long (record { wrote = Err TooLong; bytes = o })
    (cond short (record { wrote = Err NoRoom; bytes = o }) (record { wrote = Ok (length p); bytes = over p o })))
    ≡ refuse long 24 o (refuse short 6 o (done p o))
by_tests true short p o = refl
by_tests false true p o = refl
by_tests false false p o = refl

-- a number where its field has room for it, and otherwise the largest
pub fitted : {E : Type 0} (most n : ℕ) (r : Result ℕ E) → OkIff r (n < most + 1) n → result_unwrap_or r most ≡ at_most most n
unfolding at_most
fitted most n (Ok x) h = rw (h.1, le-ltb most n (omega (arith, h.0)))
fitted most n (Err e) h = rw (lt-ltb most n (omega (arith, h)))

pub written-recorded : (e : Entry) (o : List ℕ) → leaves_outcome (write e o) ≡ recorded e o
unfolding write recorded
written-recorded e o = by_tests (too_long e) (ltb (length o) (length (written e))) (written e) o
