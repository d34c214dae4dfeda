-- At first y waits in the first hash (`hashed-first`); in a turn the hashes are multiplied, and the next set is added (`hashed-next`).
use Rattle.ghash.proofs.Names.{◌*◌, ◌+◌, ◌/◌, ◌≡◌, arith, length, mul-one}
use Rattle.std.proofs.lemmas.Nat.{le-div}
use Rattle.ghash.proofs.Sets.{lent-block, hashed-first, hashed-next}
use Rattle.ghash.proofs.interleaved.absorb_sets.Goals as goal

pub loop-s-init : goal.loop-s-init
loop-s-init c = (
  c.add_set.ensures.elements,
  λ h y hh power starts. rw (mul-one c.args.n) (hashed-first h c.args.n y _ _ _ c.requires.count.0 starts c.add_set.ensures.sums),
)

pub loop-s-preserved : goal.loop-s-preserved
loop-s-preserved c =
    let l = c.loop-s in
    let n = c.args.n in
    let added = c.add_set-in-loop-s.ensures in
    let next : n * l.s + n ≡ n * (l.s + 1) = omega arith in (
      added.elements,
      λ h y hh power starts.
          rw next at (hashed-next h hh n y (n * l.s) _ _ _ _ _ _ power (lent-block _ (n * l.s)) l.invariant.0 (l.invariant.1 h y hh power starts)
          c.multiply.ensures added.sums),
    )

pub returns-clause-hashed : goal.returns-clause-hashed
returns-clause-hashed c = λ h y hh power starts.
    let some = le-div 1 (length c.args.bytes.now / 16) c.args.n c.requires.count.0 (omega arith) in
    let all : c.loop-s.s ≡ length c.args.bytes.now / 16 / c.args.n = omega arith in
    rw (← all) (c.loop-s.invariant.1 h y hh power starts)
