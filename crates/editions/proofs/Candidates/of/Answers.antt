-- The definition goes by the same tests.
use Rattle.block.proofs.Base.{◌^◌, ◌<◌, ◌∙◌, ◌≡◌, ℕ, arith, eqb, le-ltb, length, lt-ltb, ne_eqb, refl, rules, sym}
use Rattle.std.proofs.Common.{None, Option, Some, SomeIff}
use Rattle.std.specs.Option.{option_eq}
use Rattle.editions.specs.Candidates.{bad_list, sum}
use Rattle.editions.proofs.Candidates.of.Goals as goal
use Rattle.editions.proofs.Candidates.of.Goals.{then-lengths-gt-MOST-via-then-lengths-gt-MOST}
use Rattle.editions.proofs.Candidates.of.Goals.{then-lengths-gt-MOST-via-else-lengths-gt-MOST+then-ne}

-- a sum that wraps is no length
sum_test : (r : Option ℕ) (s n : ℕ) → SomeIff r (s < 2 ^ 64) s → n < 2 ^ 64 → option_eq eqb r (Some n) ≡ eqb s n
sum_test None s n h k = sym (ne_eqb s n (λ e. h (omega arith)))
sum_test (Some x) s n h k = rw h.1

pub returns-then-lengths-gt-MOST : goal.returns-then-lengths-gt-MOST
unfolding bad_list
returns-then-lengths-gt-MOST c =
    elim c.then-lengths-gt-MOST.branch [
      | then-lengths-gt-MOST-via-then-lengths-gt-MOST w ↦ rw (lt-ltb _ _ w.if-lengths-gt-MOST.true)
      | then-lengths-gt-MOST-via-else-lengths-gt-MOST+then-ne w ↦
          rw (
            le-ltb _ _ w.if-lengths-gt-MOST.false,
            ← sum_test w.total.result (sum c.args.lengths.now) (length c.args.labels.now) w.total.ensures (search rules),
            sym w.ne.ensures ∙ w.if-ne.true,
          )
    ]

pub returns : goal.returns
unfolding bad_list
returns c = (
  rw (
    le-ltb _ _ c.if-lengths-gt-MOST.false,
    ← sum_test c.total.result (sum c.args.lengths.now) (length c.args.labels.now) c.total.ensures (search rules),
    sym c.ne.ensures ∙ c.if-ne.false,
  ),
  refl,
  refl,
)
